-- The choice of the search, and what it finds.
use Rattle.std.specs.Prelude.{◌≡◌, ℕ, ◌+◌, ◌<◌, ◌≤◌, ◌^◌, nat_lt, if◌then◌else◌, List, [], ◌∷◌, ◌++◌, Option, Some, None, length, slice_get}
use Rattle.std.specs.List.{All}
use Rattle.std.specs.Option.{option_map_or}
use Rattle.rh_log.specs.declared.log.LogNode.{LogNode}
use Rattle.rh_log.specs.Tree.{IsFalseAt, IsClosedTree, LeadsTo, Expands, root, width}
use Rattle.rh_term.specs.declared.clause.Clause.{Clause}
use Rattle.rh_term.specs.declared.term.Term.{Term}
use Rattle.rh_term.specs.Partition.{IsOpen, HasNoOpenPartition}
use Rattle.rh_refuter.specs.declared.choice.Choice.{Choice}
use Rattle.rh_refuter.specs.declared.choice.Seen.{Seen}
use Rattle.rh_refuter.specs.declared.search.Verdict.{Verdict}
use Rattle.rh_refuter.specs.declared.search.Verdict.TheVariants.{Closed, Open}

-- how many equations the clause with this number has
abbrev pub width_at : List Clause → ℕ → ℕ
width_at clauses number = option_map_or width (slice_get clauses number) 0

-- of the clauses that are false in the partition, the first of those with the fewest equations
pub record IsChosen (clauses : List Clause) (labels : List ℕ) (number : ℕ) : Type 0 where
  pub is_false : IsFalseAt clauses labels number
  pub fewest : (other : ℕ) → IsFalseAt clauses labels other → width_at clauses number ≤ width_at clauses other
  pub first : (other : ℕ) → other < number → IsFalseAt clauses labels other → width_at clauses number < width_at clauses other

-- no clause is false in the partition
abbrev pub HasNoFalse : List Clause → List ℕ → Type 0
HasNoFalse clauses labels = (number : ℕ) → ¬ (IsFalseAt clauses labels number)

-- a choice among these clauses
abbrev pub IsBest : List Clause → List ℕ → Option Choice → Type 0
IsBest clauses labels None = HasNoFalse clauses labels
IsBest clauses labels (Some choice) = IsChosen clauses labels choice.number × (choice.width ≡ width_at clauses choice.number)

-- the one with fewer equations, and the first of two with as many
abbrev pub narrower : Option Choice → Choice → Option Choice
narrower None choice = Some choice
narrower (Some best) choice = if nat_lt choice.width best.width then Some choice else Some best

-- these clauses were seen after those before
pub record Adds (labels : List ℕ) (old : Seen) (part : List Clause) (new : Seen) : Type 0 where
  pub counted : new.count ≡ old.count + length part
  pub best : (clauses : List Clause) → length clauses ≡ old.count → IsBest clauses labels old.best → IsBest (clauses ++ part) labels new.best

-- the clause with this number is false in the partition, and none before it is
pub record IsFirstFalse (clauses : List Clause) (labels : List ℕ) (number : ℕ) : Type 0 where
  pub within : number < length clauses
  pub is_false : IsFalseAt clauses labels number
  pub first : (other : ℕ) → other < number → ¬ (IsFalseAt clauses labels other)

-- the chosen clause's node leads from a partition to children that stand before the old branches
abbrev pub Steps : List Term → List Clause → List ℕ → LogNode → List (List ℕ) → List (List ℕ) → Type 0
Steps terms clauses labels node old new =
    (children : List (List ℕ)) × LeadsTo (IsChosen clauses) terms clauses labels node children × (new ≡ children ++ old)

-- each clause has fewer than 2^32 literals
abbrev pub AreNarrow : List Clause → Type 0
AreNarrow clauses = All (λ clause. length clause.lits < 2 ^ 32) clauses

-- the search goes from the root, by its choice, along these nodes to the branches that are left
abbrev pub Goes : List Term → List Clause → List LogNode → List (List ℕ) → Type 0
Goes terms clauses nodes left = Expands (IsChosen clauses) terms clauses (root terms) nodes left

-- the search ends where no branch is left, or at the first branch in which no clause is false
abbrev pub IsFound : List Term → List Clause → Verdict → Type 0
IsFound terms clauses (Closed log) = Goes terms clauses log.nodes []
IsFound terms clauses (Open labels) =
    (nodes : List LogNode) × (rest : List (List ℕ)) × Goes terms clauses nodes (labels ∷ rest) × HasNoFalse clauses labels

-- a log is a closed tree, so that no partition is open, and labels are those of an open partition
abbrev pub IsDecided : List Term → List Clause → Verdict → Type 0
IsDecided terms clauses (Closed log) = IsClosedTree terms clauses log.nodes × HasNoOpenPartition terms clauses
IsDecided terms clauses (Open labels) = IsOpen terms clauses labels
