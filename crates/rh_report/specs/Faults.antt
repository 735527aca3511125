-- What a refusal says of the fault of a text.
use Rattle.std.specs.Prelude.{ℕ, List, ◌++◌, codes}
use Rattle.std.specs.Fmt.{decimal}
use Rattle.rh_text.specs.declared.token.LexFault.{LexFault}
use Rattle.rh_text.specs.declared.token.LexFault.TheVariants.{BadByte, NumberRange, LongName, NoMemory as NoLexMemory}
use Rattle.rh_il.specs.declared.fault.Limited.{Limited}
use Rattle.rh_il.specs.declared.fault.Limited.TheVariants.{Procs, Vars, Stmts}
use Rattle.rh_il.specs.declared.fault.ProgWrong.{ProgWrong}
use Rattle.rh_il.specs.declared.fault.ProgWrong.TheVariants.{DuplicateName, BadNumber, BadTarget, FallsOff, NoMain, Limit}
use Rattle.rh_il.specs.declared.fault.ProgFault.{ProgFault}
use Rattle.rh_il.specs.declared.fault.ProgFault.TheVariants.{Wrong, NoMemory as NoProgMemory}
use Rattle.rh_il_text.specs.declared.fault.ReadFault.{ReadFault}
use Rattle.rh_il_text.specs.declared.fault.ReadFault.TheVariants.{Lex, Syntax, Unknown, Program, NoMemory}
use Rattle.rh_rule.specs.declared.fault.Many.{Many}
use Rattle.rh_rule.specs.declared.fault.Many.TheVariants.{Facts, Rules, Params, Atoms, Premises, Sides}
use Rattle.rh_rule.specs.declared.fault.RuleWrong.{RuleWrong}
use Rattle.rh_rule.specs.declared.fault.RuleWrong.TheVariants.{DuplicateName as TwiceNamed, BadNumber as NoSuchNumber, Arity, KindMismatch, BadShape, BadSlot, UnusedMeta, Limit as RuleLimit}
use Rattle.rh_rule.specs.declared.fault.Item.{Item}
use Rattle.rh_rule.specs.declared.fault.Item.TheVariants.{File, Fact, Rule}
use Rattle.rh_rule.specs.declared.fault.RuleFault.{RuleFault}
use Rattle.rh_rule.specs.declared.fault.RuleFault.TheVariants.{Wrong as RuleIsWrong, NoMemory as NoRuleMemory}
use Rattle.rh_rule_text.specs.declared.fault.RulesFault.{RulesFault}
use Rattle.rh_rule_text.specs.declared.fault.RulesFault.TheVariants.{Lex as RulesLex, Syntax as RulesSyntax, Unknown as RulesUnknown, Rules as RulesWrong, NoMemory as NoRulesMemory}

abbrev pub out_of_memory : List ℕ
out_of_memory = codes "out of memory"

-- why a text is not cut into tokens
abbrev pub lex_text : LexFault → List ℕ
lex_text (BadByte offset) = codes "bad byte at " ++ decimal offset
lex_text (NumberRange offset) = codes "number out of range at " ++ decimal offset
lex_text (LongName offset) = codes "name too long at " ++ decimal offset
lex_text NoLexMemory = out_of_memory

-- the first token that cannot continue a text
abbrev pub syntax_text : ℕ → List ℕ
syntax_text offset = codes "syntax at " ++ decimal offset

-- the first name that nothing declares
abbrev pub unknown_text : ℕ → List ℕ
unknown_text offset = codes "unknown name at " ++ decimal offset

abbrev pub limited_name : Limited → List ℕ
limited_name Procs = codes "procs"
limited_name Vars = codes "vars"
limited_name Stmts = codes "stmts"

-- what is wrong with a procedure
abbrev pub prog_wrong_text : ProgWrong → List ℕ
prog_wrong_text DuplicateName = codes "duplicate name"
prog_wrong_text BadNumber = codes "bad number"
prog_wrong_text BadTarget = codes "bad target"
prog_wrong_text FallsOff = codes "falls off"
prog_wrong_text NoMain = codes "no main"
prog_wrong_text (Limit limited) = codes "too many " ++ limited_name limited

-- why procedures are not a program
abbrev pub prog_text : ProgFault → List ℕ
prog_text (Wrong kind proc item) = prog_wrong_text kind ++ codes " at procedure " ++ decimal proc ++ codes ", item " ++ decimal item
prog_text NoProgMemory = out_of_memory

-- why bytes are not a text of a program
abbrev pub program_fault_text : ReadFault → List ℕ
program_fault_text (Lex fault) = lex_text fault
program_fault_text (Syntax offset) = syntax_text offset
program_fault_text (Unknown offset) = unknown_text offset
program_fault_text (Program fault) = prog_text fault
program_fault_text NoMemory = out_of_memory

abbrev pub many_name : Many → List ℕ
many_name Facts = codes "facts"
many_name Rules = codes "rules"
many_name Params = codes "params"
many_name Atoms = codes "atoms"
many_name Premises = codes "premises"
many_name Sides = codes "sides"

-- what is wrong with a schema or a rule
abbrev pub rule_wrong_text : RuleWrong → List ℕ
rule_wrong_text TwiceNamed = codes "duplicate name"
rule_wrong_text NoSuchNumber = codes "bad number"
rule_wrong_text Arity = codes "wrong arity"
rule_wrong_text KindMismatch = codes "wrong kind"
rule_wrong_text BadShape = codes "bad shape"
rule_wrong_text BadSlot = codes "bad slot"
rule_wrong_text UnusedMeta = codes "unused metavariable"
rule_wrong_text (RuleLimit many) = codes "too many " ++ many_name many

-- where in a rule file it is wrong
abbrev pub item_text : Item → List ℕ
item_text File = codes "file"
item_text (Fact number) = codes "fact " ++ decimal number
item_text (Rule number) = codes "rule " ++ decimal number

-- why schemas and rules are not a rule file
abbrev pub rule_text : RuleFault → List ℕ
rule_text (RuleIsWrong kind item) = rule_wrong_text kind ++ codes " at " ++ item_text item
rule_text NoRuleMemory = out_of_memory

-- why bytes are not a text of a rule file
abbrev pub rules_fault_text : RulesFault → List ℕ
rules_fault_text (RulesLex fault) = lex_text fault
rules_fault_text (RulesSyntax offset) = syntax_text offset
rules_fault_text (RulesUnknown offset) = unknown_text offset
rules_fault_text (RulesWrong fault) = rule_text fault
rules_fault_text NoRulesMemory = out_of_memory
