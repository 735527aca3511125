-- Partitions of a list of terms, and which of them are open.
use Rattle.std.specs.Prelude.{◌≡◌, ℕ, ◌<◌, ◌≤◌, ◌==◌, List, Some, IsTrue, length, slice_get, slice_index}
use Rattle.rh_il.specs.declared.value.Op.{Op as Operator}
use Rattle.rh_term.specs.declared.clause.Clause.{Clause}
use Rattle.rh_term.specs.declared.term.Term.{Term}
use Rattle.rh_term.specs.declared.term.Term.TheVariants.{Sel, Upd, Op, Kind, Una}
use Rattle.rh_term.specs.Clause.{Sameness, are_true}

-- the labels of a partition of n places: for each place the least one of its class
pub record IsPartition (n : ℕ) (labels : List ℕ) : Type 0 where
  pub as_long : length labels ≡ n
  pub least : (i : ℕ) → i < n → slice_index labels i ≤ i
  pub in_class : (i : ℕ) → i < n → slice_index labels (slice_index labels i) ≡ slice_index labels i

-- two places are in one class
abbrev pub joined : List ℕ → Sameness
joined labels i j = slice_index labels i == slice_index labels j

-- the terms have the same head and number, sign or operator, and their parts are pairwise one
pub data Congruent (same : Sameness) : Term → Term → Type 0 where
  alone : {term : Term} → Congruent same term term
  sel : {s s' a a' : ℕ} → IsTrue (same s s') → IsTrue (same a a') → Congruent same (Sel s a) (Sel s' a')
  upd : {s s' a a' v v' : ℕ} → IsTrue (same s s') → IsTrue (same a a') → IsTrue (same v v') → Congruent same (Upd s a v) (Upd s' a' v')
  op : {o : Operator} {t t' u u' : ℕ} → IsTrue (same t t') → IsTrue (same u u') → Congruent same (Op o t u) (Op o t' u')
  kind : {t t' : ℕ} → IsTrue (same t t') → Congruent same (Kind t) (Kind t')
  una : {s s' a a' : ℕ} → IsTrue (same s s') → IsTrue (same a a') → Congruent same (Una s a) (Una s' a')

-- terms whose parts are pairwise one are one
abbrev pub IsCongruent : List Term → Sameness → Type 0
IsCongruent terms same =
    (i j : ℕ) (t u : Term) → slice_get terms i ≡ Some t → slice_get terms j ≡ Some u → Congruent same t u → IsTrue (same i j)

-- the labels are those of a congruent partition in which each clause has a true literal
pub record IsOpen (terms : List Term) (clauses : List Clause) (labels : List ℕ) : Type 0 where
  pub partition : IsPartition (length terms) labels
  pub congruent : IsCongruent terms (joined labels)
  pub all_true : IsTrue (are_true (joined labels) clauses)

-- no partition is open
abbrev pub HasNoOpenPartition : List Term → List Clause → Type 0
HasNoOpenPartition terms clauses = (labels : List ℕ) → ¬ (IsOpen terms clauses labels)
