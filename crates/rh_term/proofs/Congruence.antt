-- Congruent terms stay so under a coarser relation.
use Rattle.std.proofs.Common.{◌≡◌, ℕ, ◌<◌, ◌≤◌, IsTrue, List, length, take, slice_get, Some, arith}
use Rattle.std.proofs.lemmas.Option.{slice_get_within}
use Rattle.std.proofs.lemmas.List.{length-take-le}
use Rattle.rh_term.specs.declared.term.Term.{Term}
use Rattle.rh_term.specs.Clause.{Sameness}
use Rattle.rh_term.specs.Partition.{Congruent, alone, sel, upd, op, kind, una}
use Rattle.rh_term.specs.Term.{IsTermList, HasParts, is_at, is_value_term, is_store_term}
use Rattle.rh_term.proofs.Known.{part_within}

module _ (n : ℕ) (same other : Sameness) (coarser : (p q : ℕ) → p < n → q < n → IsTrue (same p q) → IsTrue (other p q))
    (front behind : List Term) (short : length front ≤ n) (brief : length behind ≤ n) where
  values : (p q : ℕ) → IsTrue (is_at is_value_term front p) → IsTrue (is_at is_value_term behind q) → IsTrue (same p q) → IsTrue (other p q)
  values p q a b h = coarser p q (omega (arith, part_within is_value_term front p a)) (omega (arith, part_within is_value_term behind q b)) h

  stores : (p q : ℕ) → IsTrue (is_at is_store_term front p) → IsTrue (is_at is_store_term behind q) → IsTrue (same p q) → IsTrue (other p q)
  stores p q a b h = coarser p q (omega (arith, part_within is_store_term front p a)) (omega (arith, part_within is_store_term behind q b)) h

  pub congruent_coarser : {t u : Term} → HasParts front t → HasParts behind u → Congruent same t u → Congruent other t u
  congruent_coarser a b alone = alone
  congruent_coarser a b (sel s x) = sel (stores _ _ a.0 b.0 s) (values _ _ a.1 b.1 x)
  congruent_coarser a b (upd s x v) = upd (stores _ _ a.0 b.0 s) (values _ _ a.1 b.1 x) (values _ _ a.2 b.2 v)
  congruent_coarser a b (op t u) = op (values _ _ a.0 b.0 t) (values _ _ a.1 b.1 u)
  congruent_coarser a b (kind t) = kind (values _ _ a b t)
  congruent_coarser a b (una s x) = una (stores _ _ a.0 b.0 s) (values _ _ a.1 b.1 x)

-- the same, for two terms of a list
pub congruent_in : (terms : List Term) → IsTermList terms → (same other : Sameness)
    → ((p q : ℕ) → p < length terms → q < length terms → IsTrue (same p q) → IsTrue (other p q))
    → (i j : ℕ) (t u : Term) → slice_get terms i ≡ Some t → slice_get terms j ≡ Some u → Congruent same t u → Congruent other t u
congruent_in terms list same other coarser i j t u at at' h =
    let within : i < length terms = slice_get_within terms i t at in
    let within' : j < length terms = slice_get_within terms j u at' in
    congruent_coarser (length terms) same other coarser (take i terms) (take j terms)
    (omega (arith, length-take-le i terms (omega arith))) (omega (arith, length-take-le j terms (omega arith)))
    (list.parts i t at) (list.parts j u at') h
