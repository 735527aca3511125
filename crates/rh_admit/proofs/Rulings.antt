-- From the decision on the obligations of a rule to its ruling.
use Rattle.std.proofs.Common.{◌≡◌, ℕ, zero, suc, ◌<◌, List, [], ◌∷◌, map, take, Some, refl, sym, subst, arith}
use Rattle.std.specs.Prelude.{IfSome, None, Option, slice_get}
use Rattle.std.specs.List.{AllByRecursion}
use Rattle.std.proofs.lemmas.List.Elements.{All-from_recursion}
use Rattle.std.proofs.lemmas.Option.{none-some, same_Some}
use Rattle.rh_log.specs.declared.log.Admission.{Admission}
use Rattle.rh_log.specs.declared.log.Admission.TheVariants.{Admitted, Refused}
use Rattle.rh_log.specs.Admission.{ruling_of}
use Rattle.rh_rule.specs.declared.rule.Rule.{Rule}
use Rattle.rh_rule.specs.declared.schema.Schema.{Schema}
use Rattle.rh_term.specs.Partition.{IsOpen}
use Rattle.rh_meaning.specs.Literal.{TreeLit}
use Rattle.rh_goals.specs.Goals.{goals}
use Rattle.rh_oblig.specs.Obligation.{IsShown, excess, obligations_of}
use Rattle.rh_oblig.specs.Ruling.{IsRuling}
use Rattle.rh_oblig.proofs.Each.{part_for}
use Rattle.rh_rule.specs.RuleFiles.{OfRule, Rules}
use Rattle.rh_admit.specs.Admission.{IsDecision, IsKept, IsShut, Part}
use Rattle.rh_admit.specs.Rules.{IsTold}

module _ (schemas : List Schema) (rule : Rule) where
  abbrev parts : List TreeLit → List Part
  parts shown = map (part_for schemas rule) shown

  all_shown : (each : List TreeLit) → AllByRecursion IsShut (parts each) → AllByRecursion (IsShown schemas rule) each
  all_shown [] shut = tt
  all_shown (goal ∷ each) shut = (shut.0, all_shown each shut.1)

  -- an obligation is that of a goal
  goal_at : (each : List TreeLit) (n : ℕ) (part : Part) → slice_get (parts each) n ≡ Some part → (goal : TreeLit) × (slice_get each n ≡ Some goal) × (part_for schemas rule goal ≡ part)
  goal_at [] n part e = absurd (none-some part e)
  goal_at (goal ∷ each) zero part e = (goal, refl, same_Some _ part e)
  goal_at (goal ∷ each) (suc n) part e = goal_at each n part e

  shown_before : (each : List TreeLit) (n earlier : ℕ) (goal : TreeLit) → AllByRecursion IsShut (take n (parts each)) → earlier < n → slice_get each earlier ≡ Some goal → IsShown schemas rule goal
  shown_before [] n earlier goal shut below e = absurd (none-some goal e)
  shown_before (first ∷ each) zero earlier goal shut below e = absurd (omega (arith, below))
  shown_before (first ∷ each) (suc n) zero goal shut below e = subst (IsShown schemas rule) (same_Some first goal e) shut.0
  shown_before (first ∷ each) (suc n) (suc earlier) goal shut below e = shown_before each n earlier goal shut.1 (omega (arith, below)) e

  pub ruled : (admission : Admission) → IsDecision (obligations_of schemas rule) admission → IsRuling schemas rule (ruling_of admission)
  ruled (Admitted logs) shut = All-from_recursion (IsShown schemas rule) (goals schemas rule) (all_shown (goals schemas rule) shut)
  ruled (Refused obligation classes) decided =
      let found = goal_at (goals schemas rule) obligation decided.0 decided.1 in
      record {
        goal = found.0;
        stands = found.1;
        is_open = (classes, subst (λ (part : Part). IsOpen part.0 part.1 classes) (sym found.2) decided.2);
        first = λ earlier before below e. shown_before (goals schemas rule) obligation earlier before decided.3 below e;
      }

-- what is told of a rule, where its obligations are decided
told_found : (schemas : List Schema) (found : Option Rule) (parts : List Part) (admission : Admission) → IfSome found (λ rule. parts ≡ obligations_of schemas rule)
    → IfSome found (λ rule. excess schemas rule ≡ None) → IsKept parts admission → IsDecision parts admission → IfSome found (λ rule. IsTold schemas rule admission)
told_found schemas None parts admission made small kept decided = tt
told_found schemas (Some rule) parts admission made small kept decided = record {
  ruled = ruled schemas rule admission (subst (λ (all : List Part). IsDecision all admission) made decided);
  kept = subst (λ (all : List Part). IsKept all admission) made kept;
  small = small;
}

pub told_of : (file : Rules) (number : ℕ) (parts : List Part) (admission : Admission) → OfRule file number (λ schemas rule. parts ≡ obligations_of schemas rule)
    → OfRule file number (λ schemas rule. excess schemas rule ≡ None) → IsKept parts admission → IsDecision parts admission
    → OfRule file number (λ schemas rule. IsTold schemas rule admission)
told_of file number parts admission made small kept decided = told_found file.schemas (slice_get file.rules number) parts admission made small kept decided
