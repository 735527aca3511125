-- What it means that a rule is proved.
use Rattle.std.specs.Prelude.{List}
use Rattle.rh_list.specs.Each.{Each}
use Rattle.rh_rule.specs.RuleFiles.{IsRuleOf}
use Rattle.rh_rule.specs.declared.rule.Rule.{Rule}
use Rattle.rh_rule.specs.declared.schema.Schema.{Schema}
use Rattle.rh_term.specs.Term.{IsTermList}
use Rattle.rh_goals.specs.Goals.{goals}
use Rattle.rh_goals.specs.Hypotheses.{hypotheses}
use Rattle.rh_oblig.specs.Obligation.{IsAdmitted, IsShown, terms_of}
use Rattle.rh_oblig.specs.TermList.{IsClosed}
use Rattle.rh_goals.specs.Valid.{IsSound, IsValid}

-- each obligation of a rule of a rule file that has no open partition holds
abbrev pub ShownAreValid : Type 0
ShownAreValid =
    (schemas : List Schema) (rule : Rule) → IsRuleOf schemas rule
    → Each (λ goal. IsShown schemas rule goal → IsValid (hypotheses schemas rule) goal) (goals schemas rule)

-- so each obligation of a rule that is proved holds
abbrev pub AdmittedAreSound : Type 0
AdmittedAreSound = (schemas : List Schema) (rule : Rule) → IsRuleOf schemas rule → IsAdmitted schemas rule → IsSound schemas rule

-- the lists of terms of its obligations are such lists: the numbers in them are of 64 bits, and each term
-- stands once, after its parts. They have all terms to which their terms lead
abbrev pub TermListsAreClosed : Type 0
TermListsAreClosed =
    (schemas : List Schema) (rule : Rule) → IsRuleOf schemas rule
    → Each (λ goal. IsTermList (terms_of schemas rule goal) × IsClosed (terms_of schemas rule goal)) (goals schemas rule)
