-- A child more.
use Rattle.std.proofs.Common.{◌≡◌, ℕ, ◌<◌, ◌≤◌, ◌+◌, ◌-◌, Bool, true, List, ◌∷◌, length, drop, get_or, arith, ap, sym, subst, ◌∙◌}
use Rattle.std.specs.List.{filter}
use Rattle.std.proofs.lemmas.Bool.{cond-true}
use Rattle.std.proofs.lemmas.List.{drop_more}
use Rattle.rh_classes.specs.Merge.{IsMerge}
use Rattle.rh_term.specs.declared.clause.Lit.{Lit}
use Rattle.rh_term.specs.declared.term.Term.{Term}
use Rattle.rh_log.specs.Branch.{Grows}

abbrev is_equation : Lit → Bool
is_equation lit = lit.equal

pub grown : (terms : List Term) (labels : List ℕ) (lits : List Lit) (at : ℕ) (d : Lit) (old now new : List (List ℕ)) (child : List ℕ)
    → 0 < at → at ≤ length lits → (get_or lits (at - 1) d).equal ≡ true
    → IsMerge terms labels (get_or lits (at - 1) d).left (get_or lits (at - 1) d).right child
    → Grows terms labels (filter is_equation (drop at lits)) old now → new ≡ child ∷ now
    → (at - 1 ≤ length lits) × Grows terms labels (filter is_equation (drop (at - 1) lits)) old new
grown terms labels lits at d old now new child some within equation merge grows e =
    let lit = get_or lits (at - 1) d in
    let rest : at - 1 + 1 ≡ at = omega arith in
    let step : drop (at - 1) lits ≡ lit ∷ drop at lits
    = drop_more lits (at - 1) d (omega arith) ∙ ap (λ i. lit ∷ drop i lits) rest in
    let kept : filter is_equation (drop (at - 1) lits) ≡ lit ∷ filter is_equation (drop at lits)
    = ap (filter is_equation) step ∙ cond-true lit.equal (lit ∷ filter is_equation (drop at lits)) (filter is_equation (drop at lits)) equation in (
      omega arith,
      subst (λ equations. Grows terms labels equations old new) (sym kept)
          (child ∷ grows.0, (merge, grows.1), e ∙ ap (λ xs. child ∷ xs) grows.2),
    )
