-- What is made of each term of a list, term by term.
use Rattle.std.proofs.Common.{◌≡◌, ℕ, ◌<◌, ◌≤◌, ◌+◌, List, ◌++◌, length, get_or, drop, refl, ap, sym, ◌∙◌, append_assoc}
use Rattle.std.proofs.lemmas.List.{drop_more, drop_all, append-nil}
use Rattle.rh_term.specs.declared.term.Term.{Term}
use Rattle.rh_axioms.specs.Rows.{each_from, each}

-- what is made so far and what is left make up the whole
pub record SoFar {X : Type 0} (make : ℕ → Term → List X) (terms : List Term) (at : ℕ) (before now : List X) : Type 0 where
  pub whole : now ++ each_from at (drop at terms) make ≡ before ++ each terms make

module _ {X : Type 0} (make : ℕ → Term → List X) (terms : List Term) where
  pub begun : (before : List X) → SoFar make terms 0 before before
  begun before = record { whole = refl }

  pub one_more : (at : ℕ) (d : Term) (before now next : List X) → at < length terms → SoFar make terms at before now
      → next ≡ now ++ make at (get_or terms at d) → SoFar make terms (at + 1) before next
  one_more at d before now next within so_far e = record {
    whole =
        ap (λ xs. xs ++ each_from (at + 1) (drop (at + 1) terms) make) e
        ∙ append_assoc now (make at (get_or terms at d)) (each_from (at + 1) (drop (at + 1) terms) make)
        ∙ ap (λ rest. now ++ each_from at rest make) (sym (drop_more terms at d within))
        ∙ so_far.whole;
  }

  pub ended : (at : ℕ) (before now : List X) → length terms ≤ at → SoFar make terms at before now → now ≡ before ++ each terms make
  ended at before now all so_far =
      sym (append-nil now) ∙ ap (λ rest. now ++ each_from at rest make) (sym (drop_all at terms all)) ∙ so_far.whole
