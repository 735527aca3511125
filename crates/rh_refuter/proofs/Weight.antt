-- The search ends: the weight of its branches falls.
use Rattle.std.proofs.Common.{◌≡◌, ℕ, zero, suc, ◌<◌, ◌≤◌, ◌+◌, ◌-◌, ◌*◌, true, false, List, [], ◌∷◌, ◌++◌, Some, length, slice_get, arith, refl, ap, sym, subst, ◌∙◌, inl, inr}
use Rattle.std.specs.Prelude.{not, nat_lt}
use Rattle.std.specs.List.{AllZip, AllByRecursion, filter, list_any, list_all, sum_by}
use Rattle.std.specs.Option.{option_map_or}
use Rattle.std.proofs.lemmas.Bool.{cases_Bool, and_parts, or_parts, cond-true, cond-false, ltb-true, not-true}
use Rattle.std.proofs.lemmas.List.Sums.{sum_by-cons}
use Rattle.std.proofs.Math.Nat.{mul-le-mul_right}
use Rattle.rh_classes.specs.Merge.{IsMerge}
use Rattle.rh_classes.proofs.Counting.{classes}
use Rattle.rh_classes.proofs.Joining.{fewer_classes}
use Rattle.rh_term.specs.declared.clause.Lit.{Lit}
use Rattle.rh_term.specs.declared.clause.Clause.{Clause}
use Rattle.rh_term.specs.declared.term.Term.{Term}
use Rattle.rh_term.specs.Clause.{is_true_lit, is_true_clause, is_within, are_within}
use Rattle.rh_term.specs.Partition.{IsPartition, joined}
use Rattle.rh_log.specs.Tree.{IsFalseAt, width, equations}
use Rattle.rh_log.proofs.Refuting.{clause_passes, equation_true}

-- (w + 1) to the power c
abbrev pub power : ℕ → ℕ → ℕ
power w zero = 1
power w (suc c) = power w c + w * power w c

power_pos : (w c : ℕ) → 0 < power w c
power_pos w zero = omega arith
power_pos w (suc c) = omega (arith, power_pos w c)

power_more : (w c k : ℕ) → power w c ≤ power w (k + c)
power_more w c zero = let e : 0 + c ≡ c = omega arith in rw e (omega arith)
power_more w c (suc k) = let e : suc k + c ≡ suc (k + c) = omega arith in rw e (omega (arith, power_more w c k))

power_mono : (w i j : ℕ) → i ≤ j → power w i ≤ power w j
power_mono w i j h = let e : j - i + i ≡ j = omega (arith, h) in subst (λ x. power w i ≤ power w x) e (power_more w i (j - i))

-- the weight of branches: the sum of these powers, c the number of classes of each
abbrev pub weight : ℕ → ℕ → List (List ℕ) → ℕ
weight w n [] = 0
weight w n (labels ∷ branches) = power w (classes labels n) + weight w n branches

weight-append : (w n : ℕ) (front behind : List (List ℕ)) → weight w n (front ++ behind) ≡ weight w n front + weight w n behind
weight-append w n [] behind = omega arith
weight-append w n (labels ∷ front) behind = omega (arith, weight-append w n front behind)

-- no clause has more equations
abbrev pub most_equations : List Clause → ℕ
most_equations clauses = sum_by width clauses

pub width_within : (clauses : List Clause) (number : ℕ) (clause : Clause) → slice_get clauses number ≡ Some clause → width clause ≤ most_equations clauses
width_within [] number clause e = cc
width_within (x ∷ xs) zero clause e =
    let same : x ≡ clause = cc in
    let here : width x ≡ width clause = ap width same in
    omega (arith, sum_by-cons width x xs, here)
width_within (x ∷ xs) (suc number) clause e = omega (arith, sum_by-cons width x xs, width_within xs number clause e)

module _ (terms : List Term) (labels : List ℕ) (partition : IsPartition (length terms) labels) where
  -- an equation between two places that are in two classes
  abbrev IsSeparate : Lit → Type 0
  IsSeparate lit = (is_within (length terms) lit ≡ true) × (joined labels lit.left lit.right ≡ false)

  separate : (lits : List Lit) → list_all (is_within (length terms)) lits ≡ true → list_any (is_true_lit (joined labels)) lits ≡ false
      → AllByRecursion IsSeparate (filter (λ lit. lit.equal) lits)
  separate [] within falsehood = tt
  separate (lit ∷ lits) within falsehood =
      let parts = and_parts (is_within (length terms) lit) (list_all (is_within (length terms)) lits) within in
      let falsity = or_parts (is_true_lit (joined labels) lit) (list_any (is_true_lit (joined labels)) lits) falsehood in
      let rest = filter (λ lit. lit.equal) lits in
      elim (cases_Bool lit.equal) [
        | inl e ↦ subst (AllByRecursion IsSeparate) (sym (cond-true lit.equal (lit ∷ rest) rest e))
            ((parts.0, sym (equation_true (joined labels) lit e) ∙ falsity.0), separate lits parts.1 falsity.1)
        | inr e ↦ subst (AllByRecursion IsSeparate) (sym (cond-false lit.equal (lit ∷ rest) rest e)) (separate lits parts.1 falsity.1)
      ]

  fewer : (lit : Lit) (child : List ℕ) → IsSeparate lit → IsMerge terms labels lit.left lit.right child → classes child (length terms) < classes labels (length terms)
  fewer lit child h merge =
      let places = and_parts (nat_lt lit.left (length terms)) (nat_lt lit.right (length terms)) h.0 in
      fewer_classes (length terms) labels child partition merge.joining.partition merge.joining.keeps lit.left lit.right
      (ltb-true lit.left (length terms) places.0) (ltb-true lit.right (length terms) places.1) merge.joining.joins h.1

  bounded : (w d : ℕ) (lits : List Lit) (children : List (List ℕ)) → classes labels (length terms) ≤ suc d → AllByRecursion IsSeparate lits
      → AllZip (λ lit child. IsMerge terms labels lit.left lit.right child) lits children → weight w (length terms) children ≤ length lits * power w d
  bounded w d [] [] small h zip = omega arith
  bounded w d [] (child ∷ children) small h zip = absurd zip
  bounded w d (lit ∷ lits) [] small h zip = absurd zip
  bounded w d (lit ∷ lits) (child ∷ children) small h zip =
      let less : classes child (length terms) ≤ d = omega (arith, fewer lit child h.0 zip.0, small) in
      omega (arith, power_mono w (classes child (length terms)) d less, bounded w d lits children small h.1 zip.1)

  lighter : (w c : ℕ) (lits : List Lit) (children : List (List ℕ)) → length lits ≤ w → classes labels (length terms) ≡ c → AllByRecursion IsSeparate lits
      → AllZip (λ lit child. IsMerge terms labels lit.left lit.right child) lits children → weight w (length terms) children < power w c
  lighter w zero [] [] narrow e h zip = omega arith
  lighter w zero [] (child ∷ children) narrow e h zip = absurd zip
  lighter w zero (lit ∷ lits) [] narrow e h zip = absurd zip
  lighter w zero (lit ∷ lits) (child ∷ children) narrow e h zip = absurd (omega (arith, fewer lit child h.0 zip.0, e))
  lighter w (suc d) lits children narrow e h zip =
      omega (arith, bounded w d lits children (omega (arith, e)) h zip, mul-le-mul_right (power w d) narrow, power_pos w d)

-- the branches weigh less after a node
pub falls : (terms : List Term) (clauses : List Clause) (labels : List ℕ) (rest children : List (List ℕ)) (number : ℕ) (clause : Clause)
    → IsPartition (length terms) labels → are_within (length terms) clauses ≡ true → slice_get clauses number ≡ Some clause → IsFalseAt clauses labels number
    → AllZip (λ lit child. IsMerge terms labels lit.left lit.right child) (equations clause) children
    → weight (most_equations clauses) (length terms) (children ++ rest) < weight (most_equations clauses) (length terms) (labels ∷ rest)
falls terms clauses labels rest children number clause partition within at false_at merged =
    let falsehood : is_true_clause (joined labels) clause ≡ false
    = not-true (is_true_clause (joined labels) clause)
    (subst (λ found. option_map_or (λ c. not (is_true_clause (joined labels) c)) found false ≡ true) at false_at) in
    let w = most_equations clauses in
    omega (
      arith,
      weight-append w (length terms) children rest,
      lighter terms labels partition w (classes labels (length terms)) (equations clause) children (width_within clauses number clause at) refl
          (separate terms labels partition clause.lits (clause_passes (λ c. list_all (is_within (length terms)) c.lits) clauses number clause at within) falsehood) merged,
    )
