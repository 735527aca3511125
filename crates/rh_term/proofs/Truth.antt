-- Truth is the same under two relations that agree on the places of the literals.
use Rattle.std.proofs.Common.{◌≡◌, ℕ, ◌<◌, true, ◌&&◌, ◌||◌, List, [], ◌∷◌, refl, ap, ◌∙◌}
use Rattle.std.specs.Prelude.{not, nat_lt, if◌then◌else◌}
use Rattle.std.specs.List.{list_any, list_all}
use Rattle.std.proofs.lemmas.Bool.{and_parts, ltb-true}
use Rattle.rh_term.specs.declared.clause.Lit.{Lit}
use Rattle.rh_term.specs.declared.clause.Clause.{Clause}
use Rattle.rh_term.specs.Clause.{Sameness, is_true_lit, is_true_clause, are_true, is_within, are_within}

module _ (n : ℕ) (same other : Sameness) (agrees : (i j : ℕ) → i < n → j < n → same i j ≡ other i j) where
  pub lit_same : (lit : Lit) → is_within n lit ≡ true → is_true_lit same lit ≡ is_true_lit other lit
  lit_same lit within =
      let places = and_parts (nat_lt lit.left n) (nat_lt lit.right n) within in
      ap (λ x. if lit.equal then x else not x)
      (agrees lit.left lit.right (ltb-true lit.left n places.0) (ltb-true lit.right n places.1))

  pub lits_same : (lits : List Lit) → list_all (is_within n) lits ≡ true → list_any (is_true_lit same) lits ≡ list_any (is_true_lit other) lits
  lits_same [] within = refl
  lits_same (lit ∷ lits) within =
      let parts = and_parts (is_within n lit) (list_all (is_within n) lits) within in
      ap (λ x. x || list_any (is_true_lit same) lits) (lit_same lit parts.0)
      ∙ ap (λ x. is_true_lit other lit || x) (lits_same lits parts.1)

  pub clauses_same : (clauses : List Clause) → are_within n clauses ≡ true → are_true same clauses ≡ are_true other clauses
  clauses_same [] within = refl
  clauses_same (clause ∷ clauses) within =
      let parts = and_parts (list_all (is_within n) clause.lits) (are_within n clauses) within in
      ap (λ x. x && are_true same clauses) (lits_same clause.lits parts.0)
      ∙ ap (λ x. is_true_clause other clause && x) (clauses_same clauses parts.1)
