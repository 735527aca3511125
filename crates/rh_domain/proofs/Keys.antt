-- A set of numbers, as the library keeps it, is the rising list of them.
use Rattle.std.proofs.Common.{ℤ, ◌≡◌, Bool, true, false, cond, List, [], ◌∷◌, refl, ap, ◌∙◌}
use Rattle.std.specs.Prelude.{int_lt, if◌then◌else◌}
use Rattle.std.specs.Ordering.{int_cmp, is_eq, match_ordering}
use Rattle.std.specs.declared.cmp.Ordering.TheVariants.{Less, Equal, Greater}
use Rattle.std.specs.BTreeSet.{insert_key}
use Rattle.rh_domain.specs.Constants.{with_number}

pub inserted : (number : ℤ) (known : List ℤ) → insert_key int_cmp known number ≡ with_number number known
inserted number [] = refl
inserted number (other ∷ known) = ap (λ rest. match_ordering (int_cmp number other) (number ∷ other ∷ known) (other ∷ known) (other ∷ rest)) (inserted number known) ∙ by (int_lt number other) (int_lt other number) (other ∷ with_number number known)
  where
    by : (below above : Bool) (later : List ℤ)
        → match_ordering (cond below Less (cond above Greater Equal)) (number ∷ other ∷ known) (other ∷ known) later
        ≡ (if is_eq (cond below Less (cond above Greater Equal)) then other ∷ known else (if below then number ∷ other ∷ known else later))
    by true above later = refl
    by false true later = refl
    by false false later = refl
