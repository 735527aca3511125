-- The choice among the clauses that were looked at, when more are.
use Rattle.std.proofs.Common.{◌≡◌, ℕ, zero, suc, ◌<◌, ◌≤◌, ◌+◌, ◌-◌, Bool, true, false, List, [], ◌∷◌, ◌++◌, Option, Some, None, IsTrue, MatchOption, length, map, nat_lt, slice_get, arith, refl, ap, sym, subst, ◌∙◌, inl, inr}
use Rattle.std.specs.Prelude.{not}
use Rattle.std.specs.Option.{option_map_or}
use Rattle.std.proofs.lemmas.Bool.{cases_lt, cond-false, cond-true, le-ltb, lt-ltb, ltb-true, not-true, not_from_false, both_ways}
use Rattle.std.proofs.lemmas.Option.{slice_get_past}
use Rattle.rh_term.specs.declared.clause.Clause.{Clause}
use Rattle.rh_term.specs.declared.computed.Operation.{Operation}
use Rattle.rh_term.specs.declared.computed.Triple.{Triple}
use Rattle.rh_term.specs.Clause.{is_true_clause}
use Rattle.rh_term.specs.Computed.{clause_with}
use Rattle.rh_term.specs.Partition.{joined}
use Rattle.rh_term.proofs.InParts.{in_second}
use Rattle.rh_log.specs.Tree.{IsFalseAt, is_false_at, width}
use Rattle.rh_refuter.specs.declared.choice.Choice.{Choice}
use Rattle.rh_refuter.specs.Choice.{IsBest, IsChosen, IsFirstFalse, HasNoFalse, narrower, width_at}

-- what is read of the first of two lists
read_first : {X : Type 0} (xs ys : List X) (n : ℕ) → n < length xs → slice_get (xs ++ ys) n ≡ slice_get xs n
read_first [] ys n h = absurd (omega (arith, h))
read_first (x ∷ xs) ys zero h = refl
read_first (x ∷ xs) ys (suc n) h = read_first xs ys n (omega (arith, h))

module _ (labels : List ℕ) where
  abbrev IsFalse : Option Clause → Type 0
  IsFalse found = IsTrue (option_map_or (λ clause. not (is_true_clause (joined labels) clause)) found false)

  -- a clause that is false is one of the list
  pub false_within : (clauses : List Clause) (number : ℕ) → IsFalseAt clauses labels number → number < length clauses
  false_within clauses number h = elim (cases_lt number (length clauses)) [
    | inl before ↦ before
    | inr past ↦
        let f : is_false_at clauses labels number ≡ false
        = ap (λ found. option_map_or (λ c. not (is_true_clause (joined labels) c)) found false) (slice_get_past clauses number past) in
        absurd (both_ways (is_false_at clauses labels number) f h)
  ]

  module _ (clauses part : List Clause) where
    abbrev both : List Clause
    both = clauses ++ part

    in_front : (n : ℕ) → n < length clauses → IsFalseAt both labels n → IsFalseAt clauses labels n
    in_front n h f = subst IsFalse (read_first clauses part n h) f

    from_front : (n : ℕ) → n < length clauses → IsFalseAt clauses labels n → IsFalseAt both labels n
    from_front n h f = subst IsFalse (sym (read_first clauses part n h)) f

    front_width : (n : ℕ) → n < length clauses → width_at both n ≡ width_at clauses n
    front_width n h = ap (λ found. option_map_or width found 0) (read_first clauses part n h)

    in_part : (n k : ℕ) → n ≡ length clauses + k → IsFalseAt both labels n → IsFalseAt part labels k
    in_part n k e f = subst IsFalse (in_second clauses part n k e) f

    from_part : (n k : ℕ) → n ≡ length clauses + k → IsFalseAt part labels k → IsFalseAt both labels n
    from_part n k e f = subst IsFalse (sym (in_second clauses part n k e)) f

    part_width : (n k : ℕ) → n ≡ length clauses + k → width_at both n ≡ width_at part k
    part_width n k e = ap (λ found. option_map_or width found 0) (in_second clauses part n k e)

    after : (n : ℕ) → length clauses ≤ n → n ≡ length clauses + (n - length clauses)
    after n h = omega (arith, h)

    -- no clause of the part is better
    pub kept : (best : Option Choice) → IsBest clauses labels best
        → ((k : ℕ) → IsFalseAt part labels k → MatchOption best ⊥ (λ choice. choice.width ≤ width_at part k)) → IsBest both labels best
    kept None none wide = λ n f. elim (cases_lt n (length clauses)) [
      | inl before ↦ none n (in_front n before f)
      | inr past ↦ wide (n - length clauses) (in_part n (n - length clauses) (after n past) f)
    ]
    kept (Some choice) best wide =
        let inside = false_within clauses choice.number best.0.is_false in
        let same = front_width choice.number inside in (
          record {
            is_false = from_front choice.number inside best.0.is_false;
            fewest = λ other f. elim (cases_lt other (length clauses)) [
              | inl before ↦ omega (arith, same, front_width other before, best.0.fewest other (in_front other before f))
              | inr past ↦
                  let k = other - length clauses in
                  let e = after other past in
                  omega (arith, same, best.1, part_width other k e, wide k (in_part other k e f))
            ];
            first = λ other less f.
                let before : other < length clauses = omega (arith, less, inside) in
                omega (arith, same, front_width other before, best.0.first other less (in_front other before f));
          },
          best.1 ∙ sym same,
        )

    -- the first of the narrowest of the part is better
    module _ (choice : Choice) (k : ℕ) (at : choice.number ≡ length clauses + k) (as_wide : choice.width ≡ width_at part k) (best_of_part : IsChosen part labels k) where
      better : ((other : ℕ) → IsFalseAt clauses labels other → choice.width < width_at clauses other) → IsBest both labels (Some choice)
      better wider =
          let same = part_width choice.number k at in (
            record {
              is_false = from_part choice.number k at best_of_part.is_false;
              fewest = λ other f. elim (cases_lt other (length clauses)) [
                | inl before ↦ omega (arith, same, as_wide, front_width other before, wider other (in_front other before f))
                | inr past ↦
                    let j = other - length clauses in
                    let e = after other past in
                    omega (arith, same, part_width other j e, best_of_part.fewest j (in_part other j e f))
              ];
              first = λ other less f. elim (cases_lt other (length clauses)) [
                | inl before ↦ omega (arith, same, as_wide, front_width other before, wider other (in_front other before f))
                | inr past ↦
                    let j = other - length clauses in
                    let e = after other past in
                    let earlier : j < k = omega (arith, e, at, less) in
                    omega (arith, same, part_width other j e, best_of_part.first j earlier (in_part other j e f))
              ];
            },
            as_wide ∙ sym same,
          )

      pub added : (best : Option Choice) → IsBest clauses labels best → IsBest both labels (narrower best choice)
      added None none = better (λ other f. absurd (none other f))
      added (Some old) best = elim (cases_lt choice.width old.width) [
        | inl less ↦ subst (IsBest both labels) (sym (cond-true (nat_lt choice.width old.width) (Some choice) (Some old) (lt-ltb choice.width old.width less)))
            (better (λ other f. omega (arith, best.1, best.0.fewest other f, less)))
        | inr more ↦ subst (IsBest both labels) (sym (cond-false (nat_lt choice.width old.width) (Some choice) (Some old) (le-ltb choice.width old.width more)))
            (kept (Some old) best (λ other f. omega (arith, as_wide, best_of_part.fewest other f, more)))
      ]

  -- ---- one clause

  pub true_alone : (clause : Clause) → is_true_clause (joined labels) clause ≡ true → (k : ℕ) → ¬ (IsFalseAt (clause ∷ []) labels k)
  true_alone clause e zero h = both_ways (is_true_clause (joined labels) clause) (not-true (is_true_clause (joined labels) clause) h) e
  true_alone clause e (suc k) h = absurd (omega (arith, false_within (clause ∷ []) (suc k) h))

  pub false_alone : (clause : Clause) → is_true_clause (joined labels) clause ≡ false → IsChosen (clause ∷ []) labels 0
  false_alone clause e = record {
    is_false = not_from_false (is_true_clause (joined labels) clause) e;
    fewest = λ other f.
        let same : 0 ≡ other = omega (arith, false_within (clause ∷ []) other f) in
        subst (λ n. width_at (clause ∷ []) 0 ≤ width_at (clause ∷ []) n) same (omega arith);
    first = λ other less f. absurd (omega (arith, less));
  }

  -- ---- the clauses of an operation

  module _ (operation : Operation) where
    pub one_equation : (triples : List Triple) (k : ℕ) → k < length (map (clause_with operation) triples) → width_at (map (clause_with operation) triples) k ≡ 1
    one_equation [] k h = absurd (omega (arith, h))
    one_equation (triple ∷ triples) zero h = refl
    one_equation (triple ∷ triples) (suc k) h = one_equation triples k (omega (arith, h))

    module _ (triples : List Triple) where
      abbrev clauses : List Clause
      clauses = map (clause_with operation) triples

      pub first_chosen : (k : ℕ) → IsFirstFalse clauses labels k → IsChosen clauses labels k
      first_chosen k h = record {
        is_false = h.is_false;
        fewest = λ other f. omega (arith, one_equation triples k h.within, one_equation triples other (false_within clauses other f));
        first = λ other less f. absurd (h.first other less f);
      }

      -- none of them is better than a choice with one equation or none
      pub not_better : (best : Option Choice) → option_map_or (λ choice. nat_lt choice.width 2) best false ≡ true
          → (k : ℕ) → IsFalseAt clauses labels k → MatchOption best ⊥ (λ choice. choice.width ≤ width_at clauses k)
      not_better None h k f = cc
      not_better (Some choice) h k f =
          omega (arith, ltb-true choice.width 2 h, one_equation triples k (false_within clauses k f))

-- a clause that is chosen has a number in the list
pub chosen_within : (clauses : List Clause) (labels : List ℕ) (choice : Choice) → IsBest clauses labels (Some choice) → choice.number < length clauses
chosen_within clauses labels choice best = false_within labels clauses choice.number best.0.is_false
