-- The place of a term is where it stands.
use Rattle.std.proofs.Common.{◌≡◌, ℕ, zero, suc, true, ◌&&◌, ◌==◌, List, [], ◌∷◌, Option, Some, None, slice_get, refl, ap, sym, ◌∙◌, inl, inr}
use Rattle.std.specs.Option.{option_map}
use Rattle.std.proofs.lemmas.Bool.{and_parts, and_from, eqb-true, eq-eqb, cases_Bool, cond-true, cond-false}
use Rattle.std.proofs.lemmas.Bool.Decides.{Decides-int_eq}
use Rattle.rh_il.specs.Op.{op_eq}
use Rattle.rh_il.proofs.Operators.{op_eq-true, op_eq-refl}
use Rattle.rh_term.specs.declared.term.Term.{Term}
use Rattle.rh_term.specs.declared.term.Term.TheVariants.{Num, Cst, Addr, Any, Fresh, Answer, Before, After, Start, Sel, Upd, Op, Kind, IsNum, IsPtr, Una, Yes}
use Rattle.rh_term.specs.Place.{same_term, place_in}

two : (a b c d : ℕ) → (a == c && b == d) ≡ true → (a ≡ c) × (b ≡ d)
two a b c d e = let parts = and_parts (a == c) (b == d) e in (eqb-true a c parts.0, eqb-true b d parts.1)

pub same_term-true : (t u : Term) → same_term t u ≡ true → t ≡ u
same_term-true (Num a) (Num b) e = ap Num ((Decides-int_eq a b).0 e)
same_term-true (Cst a) (Cst b) e = ap Cst (eqb-true a b e)
same_term-true (Addr a) (Addr b) e = ap Addr (eqb-true a b e)
same_term-true Any Any e = refl
same_term-true Fresh Fresh e = refl
same_term-true Answer Answer e = refl
same_term-true Before Before e = refl
same_term-true After After e = refl
same_term-true Start Start e = refl
same_term-true (Sel s a) (Sel t b) e = let h = two s a t b e in let f : s ≡ t = h.0 in let g : a ≡ b = h.1 in cc
same_term-true (Upd s a v) (Upd t b w) e =
    let h = and_parts (s == t) (a == b && v == w) e in
    let k = two a v b w h.1 in
    let f : s ≡ t = eqb-true s t h.0 in let g : a ≡ b = k.0 in let i : v ≡ w = k.1 in cc
same_term-true (Op o a b) (Op p c d) e =
    let h = and_parts (op_eq o p) (a == c && b == d) e in
    let k = two a b c d h.1 in
    let f : o ≡ p = op_eq-true o p h.0 in let g : a ≡ c = k.0 in let i : b ≡ d = k.1 in cc
same_term-true (Kind a) (Kind b) e = ap Kind (eqb-true a b e)
same_term-true IsNum IsNum e = refl
same_term-true IsPtr IsPtr e = refl
same_term-true (Una s a) (Una t b) e = let h = two s a t b e in let f : s ≡ t = h.0 in let g : a ≡ b = h.1 in cc
same_term-true Yes Yes e = refl
same_term-true _ _ e = cc

pub same_term-refl : (t : Term) → same_term t t ≡ true
same_term-refl (Num a) = (Decides-int_eq a a).1 refl
same_term-refl (Cst a) = eq-eqb a a refl
same_term-refl (Addr a) = eq-eqb a a refl
same_term-refl Any = refl
same_term-refl Fresh = refl
same_term-refl Answer = refl
same_term-refl Before = refl
same_term-refl After = refl
same_term-refl Start = refl
same_term-refl (Sel s a) = and_from _ _ (eq-eqb s s refl) (eq-eqb a a refl)
same_term-refl (Upd s a v) = and_from _ _ (eq-eqb s s refl) (and_from _ _ (eq-eqb a a refl) (eq-eqb v v refl))
same_term-refl (Op o a b) = and_from _ _ (op_eq-refl o) (and_from _ _ (eq-eqb a a refl) (eq-eqb b b refl))
same_term-refl (Kind a) = eq-eqb a a refl
same_term-refl IsNum = refl
same_term-refl IsPtr = refl
same_term-refl (Una s a) = and_from _ _ (eq-eqb s s refl) (eq-eqb a a refl)
same_term-refl Yes = refl

abbrev put_off : Option ℕ → Option ℕ
put_off = option_map suc

not_put_off : (found : Option ℕ) → put_off found ≡ Some zero → ⊥
not_put_off None e = cc
not_put_off (Some p) e = cc

put_off_is : (found : Option ℕ) (p : ℕ) → put_off found ≡ Some (suc p) → found ≡ Some p
put_off_is None p e = cc
put_off_is (Some q) p e = cc

-- where there is a place, the term stands there
pub place_stands : (terms : List Term) (term : Term) (place : ℕ) → place_in terms term ≡ Some place → slice_get terms place ≡ Some term
place_stands [] term place e = cc
place_stands (first ∷ terms) term zero e =
    elim (cases_Bool (same_term first term)) [
      | inl t ↦ ap Some (same_term-true first term t)
      | inr f ↦ absurd (not_put_off (place_in terms term) (sym (cond-false (same_term first term) (Some zero) (put_off (place_in terms term)) f) ∙ e))
    ]
place_stands (first ∷ terms) term (suc place) e =
    elim (cases_Bool (same_term first term)) [
      | inl t ↦ let g : Some zero ≡ Some (suc place) = sym (cond-true (same_term first term) (Some zero) (put_off (place_in terms term)) t) ∙ e in cc
      | inr f ↦ place_stands terms term place
          (put_off_is (place_in terms term) place (sym (cond-false (same_term first term) (Some zero) (put_off (place_in terms term)) f) ∙ e))
    ]
