-- Want of memory is no fault of a text.
use Rattle.std.proofs.Common.{◌≡◌, ℕ, zero, suc, Bool, true, false, List, Option, Some, None, subst}
use Rattle.std.specs.Option.{option_or, option_and_then}
use Rattle.rh_il.specs.Checks.{first_some}
use Rattle.rh_rule.specs.declared.schema.Schema.{Schema}
use Rattle.rh_rule.specs.declared.rule.Rule.{Rule}
use Rattle.rh_rule.specs.declared.fault.RuleWrong.{RuleWrong}
use Rattle.rh_rule.specs.declared.fault.Item.{Item}
use Rattle.rh_rule.specs.declared.fault.RuleFault.{RuleFault}
use Rattle.rh_rule.specs.declared.fault.RuleFault.TheVariants.{Wrong, NoMemory as NoRuleMemory}
use Rattle.rh_rule.specs.Checks.{unless, schema_fault, rule_fault, file_fault}
use Rattle.rh_text.specs.declared.token.LexFault.TheVariants.{NoMemory as NoLexMemory}
use Rattle.rh_rule_text.specs.declared.fault.RulesFault.TheVariants.{Lex, Rules as WrongRules}
use Rattle.rh_rule_text.specs.Reading.{resolved, FaultsAs}

-- a check that fails, or none
abbrev IsCheck : Option RuleFault → Type 0
IsCheck None = Unit {0}
IsCheck (Some (Wrong kind item)) = Unit {0}
IsCheck (Some NoRuleMemory) = ⊥

unless_check : (b : Bool) (kind : RuleWrong) (item : Item) → IsCheck (unless b kind item)
unless_check true kind item = tt
unless_check false kind item = tt

or_check : (a b : Option RuleFault) → IsCheck a → IsCheck b → IsCheck (option_or a b)
or_check None b first second = second
or_check (Some fault) b first second = first

first_check : (n : ℕ) (faults : ℕ → Option RuleFault) → ((i : ℕ) → IsCheck (faults i)) → IsCheck (first_some n faults)
first_check zero faults each = tt
first_check (suc n) faults each = or_check (first_some n faults) (faults n) (first_check n faults each) (each n)

then_check : {T : Type 0} (f : T → Option RuleFault) (o : Option T) → ((x : T) → IsCheck (f x)) → IsCheck (option_and_then f o)
then_check f None each = tt
then_check f (Some x) each = each x

schema_check : (number : ℕ) (s : Schema) → IsCheck (schema_fault number s)
unfolding schema_fault
schema_check number s = search (or_check, unless_check, first_check) depth 12

rule_check : (schemas : List Schema) (number : ℕ) (r : Rule) → IsCheck (rule_fault schemas number r)
unfolding rule_fault
rule_check schemas number r = search (or_check, unless_check, first_check) depth 12

file_check : (schemas : List Schema) (rules : List Rule) → IsCheck (file_fault schemas rules)
unfolding file_fault
file_check schemas rules = search (or_check, unless_check, first_check, then_check, schema_check, rule_check) depth 12

-- no check of a rule file fails for want of memory
pub checks_need_no_memory : (schemas : List Schema) (rules : List Rule) → file_fault schemas rules ≡ Some NoRuleMemory → ⊥
checks_need_no_memory schemas rules is = subst IsCheck is (file_check schemas rules)

-- so want of memory is told as such, and as no fault of the text
pub lexer_needs_no_memory : (text : List ℕ) → FaultsAs text (Lex NoLexMemory) → ⊥
lexer_needs_no_memory text fault = fault.there

pub rules_need_no_memory : (text : List ℕ) → FaultsAs text (WrongRules NoRuleMemory) → ⊥
rules_need_no_memory text fault = checks_need_no_memory (resolved fault.source).schemas (resolved fault.source).rules fault.fails
