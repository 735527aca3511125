-- Congruence is looked at once for each two terms.
use Rattle.std.proofs.Common.{ℕ, ◌<◌, ◌≤◌, IsTrue, List, length, slice_index, ap, sym, ◌∙◌, arith, inl, inr}
use Rattle.std.proofs.lemmas.Bool.{cases_order}
use Rattle.std.proofs.lemmas.Option.{slice_get_within}
use Rattle.rh_term.specs.declared.term.Term.{Term}
use Rattle.rh_term.specs.Clause.{Sameness}
use Rattle.rh_term.specs.Partition.{Congruent, IsCongruent, joined, alone, sel, upd, op, kind, una}
use Rattle.rh_classes.specs.Merge.{AgreesBefore}
use Rattle.rh_classes.proofs.Joining.{joined-equal, equal-joined}

pub Congruent-sym : (same : Sameness) (symmetric : (i j : ℕ) → IsTrue (same i j) → IsTrue (same j i)) {t u : Term} → Congruent same t u → Congruent same u t
Congruent-sym same symmetric alone = alone
Congruent-sym same symmetric (sel p q) = sel (symmetric _ _ p) (symmetric _ _ q)
Congruent-sym same symmetric (upd p q r) = upd (symmetric _ _ p) (symmetric _ _ q) (symmetric _ _ r)
Congruent-sym same symmetric (op p q) = op (symmetric _ _ p) (symmetric _ _ q)
Congruent-sym same symmetric (kind p) = kind (symmetric _ _ p)
Congruent-sym same symmetric (una p q) = una (symmetric _ _ p) (symmetric _ _ q)

pub Congruent-trans : (same : Sameness) (transitive : (i j k : ℕ) → IsTrue (same i j) → IsTrue (same j k) → IsTrue (same i k)) {t u v : Term}
    → Congruent same t u → Congruent same u v → Congruent same t v
Congruent-trans same transitive alone h = h
Congruent-trans same transitive (sel p q) alone = sel p q
Congruent-trans same transitive (sel p q) (sel p' q') = sel (transitive _ _ _ p p') (transitive _ _ _ q q')
Congruent-trans same transitive (upd p q r) alone = upd p q r
Congruent-trans same transitive (upd p q r) (upd p' q' r') = upd (transitive _ _ _ p p') (transitive _ _ _ q q') (transitive _ _ _ r r')
Congruent-trans same transitive (op p q) alone = op p q
Congruent-trans same transitive (op p q) (op p' q') = op (transitive _ _ _ p p') (transitive _ _ _ q q')
Congruent-trans same transitive (kind p) alone = kind p
Congruent-trans same transitive (kind p) (kind p') = kind (transitive _ _ _ p p')
Congruent-trans same transitive (una p q) alone = una p q
Congruent-trans same transitive (una p q) (una p' q') = una (transitive _ _ _ p p') (transitive _ _ _ q q')

pub joined-sym : (labels : List ℕ) (i j : ℕ) → IsTrue (joined labels i j) → IsTrue (joined labels j i)
joined-sym labels i j h = equal-joined labels j i (sym (joined-equal labels i j h))

pub joined-trans : (labels : List ℕ) (i j k : ℕ) → IsTrue (joined labels i j) → IsTrue (joined labels j k) → IsTrue (joined labels i k)
joined-trans labels i j k h h' = equal-joined labels i k (joined-equal labels i j h ∙ joined-equal labels j k h')

pub all_agree : (terms : List Term) (labels : List ℕ) (n : ℕ) → length terms ≤ n
    → ((i : ℕ) → i < n → AgreesBefore terms labels i i) → IsCongruent terms (joined labels)
all_agree terms labels n long agrees i j t u at at' h =
    elim (cases_order i j) [
      | inl e ↦ equal-joined labels i j (ap (slice_index labels) e)
      | inr other ↦ elim other [
        | inl below ↦ joined-sym labels j i
            (agrees j (omega (arith, slice_get_within terms j u at')) i u t below at' at (Congruent-sym (joined labels) (joined-sym labels) h))
        | inr above ↦ agrees i (omega (arith, slice_get_within terms i t at)) j t u above at at' h
      ]
    ]
