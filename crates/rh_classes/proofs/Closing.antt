-- The closure of a merge: what holds after each join, and at the end.
use Rattle.std.proofs.Common.{ℕ, ◌<◌, IsTrue, List, length}
use Rattle.std.proofs.lemmas.Option.{slice_get_within}
use Rattle.rh_term.specs.declared.term.Term.{Term}
use Rattle.rh_term.specs.Partition.{IsPartition, IsCongruent, joined}
use Rattle.rh_term.specs.Term.{IsTermList}
use Rattle.rh_term.proofs.Congruence.{congruent_in}
use Rattle.rh_classes.specs.Merge.{Refines, Joins, IsMerge, IsApart, relabelled}
use Rattle.rh_classes.proofs.Counting.{classes}
use Rattle.rh_classes.proofs.Joining.{made_partition, made_keeps, made_joins, made_least, fewer_classes}

-- what holds between two joins: the partition lies within each that is congruent, keeps the old classes and joins the two places
pub record IsWithin (terms : List Term) (old : List ℕ) (a b : ℕ) (now : List ℕ) : Type 0 where
  pub partition : IsPartition (length terms) now
  pub keeps : Refines (length terms) old now
  pub joins : IsTrue (joined now a b)
  pub least : (other : List ℕ) → Joins terms old a b other → Refines (length terms) now other

pub begun : (terms : List Term) (old : List ℕ) (a b : ℕ) → IsPartition (length terms) old → a < length terms → b < length terms
    → IsWithin terms old a b (relabelled old a b)
begun terms old a b partition in_a in_b = record {
  partition = made_partition (length terms) old partition a b in_a in_b;
  keeps = made_keeps (length terms) old partition a b in_a in_b;
  joins = made_joins (length terms) old partition a b in_a in_b;
  least = λ other joining. made_least (length terms) old partition a b in_a in_b other joining.keeps joining.joins;
}

module _ (terms : List Term) (old : List ℕ) (a b : ℕ) (in_a : a < length terms) (in_b : b < length terms) (now : List ℕ) (i j : ℕ) (apart : IsApart terms now i j)
    (within : IsWithin terms old a b now) where
  in_i : i < length terms
  in_i = slice_get_within terms i apart.left apart.left_at

  in_j : j < length terms
  in_j = slice_get_within terms j apart.right apart.right_at

  pub gone_on : IsTermList terms → IsWithin terms old a b (relabelled now i j)
  gone_on list =
      let keeps : Refines (length terms) now (relabelled now i j) = made_keeps (length terms) now within.partition i j in_i in_j in
      record {
        partition = made_partition (length terms) now within.partition i j in_i in_j;
        keeps = λ k l in_k in_l h. keeps k l in_k in_l (within.keeps k l in_k in_l h);
        joins = keeps a b in_a in_b within.joins;
        least = λ other joining.
            made_least (length terms) now within.partition i j in_i in_j other (within.least other joining)
            (joining.congruent i j apart.left apart.right apart.left_at apart.right_at
            (congruent_in terms list (joined now) (joined other) (within.least other joining) i j apart.left apart.right
            apart.left_at apart.right_at apart.congruent));
      }

  pub falls : classes (relabelled now i j) (length terms) < classes now (length terms)
  falls = fewer_classes (length terms) now (relabelled now i j) within.partition
      (made_partition (length terms) now within.partition i j in_i in_j) (made_keeps (length terms) now within.partition i j in_i in_j)
      i j in_i in_j (made_joins (length terms) now within.partition i j in_i in_j) apart.apart

pub ended : (terms : List Term) (old : List ℕ) (a b : ℕ) (now : List ℕ) → IsWithin terms old a b now → IsCongruent terms (joined now) → IsMerge terms old a b now
ended terms old a b now within congruent = record {
  joining = record { partition = within.partition; congruent = congruent; keeps = within.keeps; joins = within.joins };
  least = within.least;
}
