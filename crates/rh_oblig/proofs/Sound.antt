-- Obligations without an open partition hold.
use Rattle.std.proofs.Common.{◌≡◌, ℕ, zero, suc, ◌*◌, List, [], ◌∷◌, Some, length, get_or, subst}
use Rattle.std.specs.Prelude.{slice_get}
use Rattle.std.specs.List.{AllByRecursion}
use Rattle.std.proofs.lemmas.Option.{none-some, same_Some, slice_get-get_or}
use Rattle.rh_axioms.specs.Rows.{all_schemas, instances_of}
use Rattle.rh_axioms.proofs.Truths.{tables_hold}
use Rattle.rh_axioms.proofs.Within.{instances_fit}
use Rattle.rh_rule.specs.Ranges.{RuleNumbersFit}
use Rattle.rh_rule.specs.RuleFiles.{IsRuleOf}
use Rattle.rh_rule.specs.declared.rule.Rule.{Rule}
use Rattle.rh_rule.specs.declared.schema.Schema.{Schema}
use Rattle.rh_term.specs.declared.term.Term.{Term}
use Rattle.rh_term.specs.Term.{IsTermList}
use Rattle.rh_meaning.specs.Literal.{TreeLit, literal_trees}
use Rattle.rh_meaning.specs.Sorts.{IsSorted}
use Rattle.rh_meaning.specs.Tree.{Tree}
use Rattle.rh_goals.specs.Goals.{goals}
use Rattle.rh_goals.specs.Hypotheses.{hypotheses}
use Rattle.rh_oblig.specs.Laws.{AdmittedAreSound, ShownAreValid, TermListsAreClosed}
use Rattle.rh_oblig.specs.Obligation.{IsShown, terms_of}
use Rattle.rh_oblig.specs.TermList.{IsClosed, first_trees, with_trees}
use Rattle.rh_goals.specs.Valid.{IsValid}
use Rattle.rh_oblig.proofs.Bridge.{AreAxioms, valid}
use Rattle.rh_oblig.proofs.Kept.{kept_trees, none_kept}
use Rattle.rh_goals.proofs.RuleTrees.{goals_sorted}
use Rattle.rh_oblig.proofs.Leaves.{first_trees_sorted}
use Rattle.rh_oblig.proofs.Walked.{IsWalked, closed_walked}

-- the instances of the clause schemas are axioms over a list of terms
schemas_are_axioms : (terms : List Term) → IsTermList terms → AreAxioms terms (instances_of all_schemas terms)
schemas_are_axioms terms list = record {
  within = instances_fit terms list all_schemas;
  are_laws = λ model is_model. tables_hold all_schemas model terms is_model list;
}

-- what all items have, the one at a place has
pub found : {X : Type 0} (P : X → Type 0) (xs : List X) (place : ℕ) (x : X) → AllByRecursion P xs → slice_get xs place ≡ Some x → P x
found P [] place x all stands = absurd (none-some x stands)
found P (first ∷ xs) zero x all stands = subst P (same_Some first x stands) all.0
found P (first ∷ xs) (suc place) x all stands = found P xs place x all.1 stands

module _ (schemas : List Schema) (rule : Rule) (is : IsRuleOf schemas rule) where
  pub rule_numbers : RuleNumbersFit rule
  rule_numbers = found RuleNumbersFit is.rules is.number rule is.file.numbers.rules is.stands

  module _ (place : ℕ) (goal : TreeLit) (stands : slice_get (goals schemas rule) place ≡ Some goal) where
    goal_sorted : AllByRecursion IsSorted (literal_trees goal)
    goal_sorted = found (λ other. AllByRecursion IsSorted (literal_trees other)) (goals schemas rule) place goal (goals_sorted schemas rule is.file.numbers.schemas rule_numbers) stands

    abbrev trees : List Tree
    trees = first_trees rule.params rule.pattern (hypotheses schemas rule) goal

    trees_sorted : AllByRecursion IsSorted trees
    trees_sorted = first_trees_sorted schemas rule goal is.file.numbers.schemas rule_numbers goal_sorted

    terms_walked : IsWalked (terms_of schemas rule goal) (4 * length (with_trees [] trees))
    terms_walked = closed_walked (with_trees [] trees) (kept_trees [] trees none_kept trees_sorted)

    pub terms_closed : IsTermList (terms_of schemas rule goal) × IsClosed (terms_of schemas rule goal)
    terms_closed = (terms_walked.kept.list, terms_walked.closes)

    pub shown_holds : IsShown schemas rule goal → IsValid (hypotheses schemas rule) goal
    shown_holds shown =
        valid rule.params rule.pattern (hypotheses schemas rule) goal (instances_of all_schemas (terms_of schemas rule goal)) terms_closed.0
        trees_sorted (schemas_are_axioms (terms_of schemas rule goal) terms_closed.0) shown

pub shown_are_valid : ShownAreValid
shown_are_valid schemas rule is = λ place goal stands shown. shown_holds schemas rule is place goal stands shown

pub admitted_are_sound : AdmittedAreSound
admitted_are_sound schemas rule is admitted = λ place other within.
    shown_are_valid schemas rule is place (get_or (goals schemas rule) place other) (slice_get-get_or (goals schemas rule) place other within) (admitted place other within)

pub term_lists_are_closed : TermListsAreClosed
term_lists_are_closed schemas rule is = λ place goal stands. terms_closed schemas rule is place goal stands
