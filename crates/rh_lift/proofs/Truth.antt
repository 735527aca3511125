-- Which clauses and goals are true in the model of a state.
use Rattle.std.proofs.Common.{◌≡◌, Bool, true, false, ◌&&◌, ◌||◌, List, [], ◌∷◌, ◌++◌, refl, ap, sym, ◌∙◌}
use Rattle.std.specs.List.{list_any, list_all, All, AllByRecursion}
use Rattle.std.proofs.lemmas.Bool.{and_parts, and_from}
use Rattle.std.proofs.lemmas.List.Elements.{recursion_from_All}
use Rattle.std.proofs.lemmas.List.Folds.{list_all-append}
use Rattle.rh_term.specs.Model.{Model, IsModel}
use Rattle.rh_meaning.specs.Literal.{TreeLit, TreeClause}
use Rattle.rh_meaning.specs.Denotation.{is_true_in, are_true_in}
use Rattle.rh_goals.specs.Hypotheses.{units}
use Rattle.rh_goals.specs.Valid.{IsValid}

or_false : (a : Bool) → (a || false) ≡ a
or_false true = refl
or_false false = refl

-- clauses of one literal each are true where the literals are
pub units_true : (model : Model) (lits : List TreeLit) → are_true_in model (units lits) ≡ list_all (is_true_in model) lits
units_true model [] = refl
units_true model (lit ∷ lits) = ap (λ x. x && are_true_in model (units lits)) (or_false (is_true_in model lit)) ∙ ap (λ x. is_true_in model lit && x) (units_true model lits)

-- clauses are true together where they are true apart
pub both_true : (model : Model) (a b : List TreeClause) → are_true_in model a ≡ true → are_true_in model b ≡ true → are_true_in model (a ++ b) ≡ true
both_true model a b p q = list_all-append (λ clause. list_any (is_true_in model) clause) a b ∙ and_from _ _ p q

valid_true : (model : Model) (hypotheses : List TreeClause) (goals : List TreeLit) → IsModel model → are_true_in model hypotheses ≡ true
    → AllByRecursion (IsValid hypotheses) goals → list_all (is_true_in model) goals ≡ true
valid_true model hypotheses [] is_model known valid = refl
valid_true model hypotheses (goal ∷ goals) is_model known valid =
    and_from _ _ (valid.0 model is_model known) (valid_true model hypotheses goals is_model known valid.1)

-- the goals of obligations that hold are true in each model of the hypotheses
pub goals_true : (model : Model) (hypotheses : List TreeClause) (goals : List TreeLit) → IsModel model → are_true_in model hypotheses ≡ true
    → All (IsValid hypotheses) goals → list_all (is_true_in model) goals ≡ true
goals_true model hypotheses goals is_model known valid =
    valid_true model hypotheses goals is_model known (recursion_from_All (IsValid hypotheses) goals valid)

-- goals that are true together are true apart
pub goals_apart : (model : Model) (front : List TreeLit) (last : TreeLit) → list_all (is_true_in model) (front ++ last ∷ []) ≡ true
    → (list_all (is_true_in model) front ≡ true) × (is_true_in model last ≡ true)
goals_apart model front last h =
    let parts = and_parts (list_all (is_true_in model) front) (list_all (is_true_in model) (last ∷ [])) (sym (list_all-append (is_true_in model) front (last ∷ [])) ∙ h) in
    (parts.0, (and_parts (is_true_in model last) true parts.1).0)
