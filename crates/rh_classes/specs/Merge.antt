-- Partitions that grow by a merge.
use Rattle.std.specs.Prelude.{◌≡◌, ℕ, ◌<◌, ◌==◌, min, max, List, Some, map, IsTrue, IsFalse, length, slice_get, slice_index, if◌then◌else◌}
use Rattle.std.specs.List.{range_with_len}
use Rattle.rh_term.specs.declared.term.Term.{Term}
use Rattle.rh_term.specs.Partition.{IsPartition, IsCongruent, Congruent, joined}

-- each of n places is in a class of its own
abbrev pub alone : ℕ → List ℕ
alone n = range_with_len 0 n

-- of n places, what is in one class stays in one class
abbrev pub Refines : ℕ → List ℕ → List ℕ → Type 0
Refines n old new = (i j : ℕ) → i < n → j < n → IsTrue (joined old i j) → IsTrue (joined new i j)

-- a congruent partition of the terms that keeps the old classes together, and joins two places
pub record Joins (terms : List Term) (old : List ℕ) (a b : ℕ) (new : List ℕ) : Type 0 where
  pub partition : IsPartition (length terms) new
  pub congruent : IsCongruent terms (joined new)
  pub keeps : Refines (length terms) old new
  pub joins : IsTrue (joined new a b)

-- the least of them
pub record IsMerge (terms : List Term) (old : List ℕ) (a b : ℕ) (new : List ℕ) : Type 0 where
  pub joining : Joins terms old a b new
  pub least : (other : List ℕ) → Joins terms old a b other → Refines (length terms) new other

-- two terms are congruent, and in two classes
pub record IsApart (terms : List Term) (labels : List ℕ) (i j : ℕ) : Type 0 where
  pub left : Term
  pub right : Term
  pub left_at : slice_get terms i ≡ Some left
  pub right_at : slice_get terms j ≡ Some right
  pub congruent : Congruent (joined labels) left right
  pub apart : IsFalse (joined labels i j)

-- the labels, where the classes of two places are made one
abbrev pub relabelled : List ℕ → ℕ → ℕ → List ℕ
relabelled labels a b = map (λ label. if label == max (slice_index labels a) (slice_index labels b) then min (slice_index labels a) (slice_index labels b) else label) labels

-- a term is in one class with each term before a place that it is congruent to
abbrev pub AgreesBefore : List Term → List ℕ → ℕ → ℕ → Type 0
AgreesBefore terms labels place bound =
    (j : ℕ) (t u : Term) → j < bound → slice_get terms place ≡ Some t → slice_get terms j ≡ Some u
    → Congruent (joined labels) t u → IsTrue (joined labels place j)
