-- The statuses of faults of texts.
use Rattle.rh_il_text.specs.declared.fault.ReadFault.{ReadFault}
use Rattle.rh_il_text.specs.declared.fault.ReadFault.TheVariants.{Lex as ProgramLex, Syntax as ProgramSyntax, Unknown as ProgramUnknown, Program as ProgramWrong, NoMemory as NoProgramMemory}
use Rattle.rh_report.specs.declared.status.Status.{Status}
use Rattle.rh_report.specs.declared.status.Status.TheVariants.{BadProgram, BadRules, NoMemory}
use Rattle.rh_rule_text.specs.declared.fault.RulesFault.{RulesFault}
use Rattle.rh_rule_text.specs.declared.fault.RulesFault.TheVariants.{Lex as RulesLex, Syntax as RulesSyntax, Unknown as RulesUnknown, Rules as RulesWrong, NoMemory as NoRulesMemory}

-- a rule file
abbrev pub of_rules : RulesFault → Status
of_rules (RulesLex fault) = BadRules (RulesLex fault)
of_rules (RulesSyntax at) = BadRules (RulesSyntax at)
of_rules (RulesUnknown at) = BadRules (RulesUnknown at)
of_rules (RulesWrong fault) = BadRules (RulesWrong fault)
of_rules NoRulesMemory = NoMemory

-- a program
abbrev pub of_program : ReadFault → Status
of_program (ProgramLex fault) = BadProgram (ProgramLex fault)
of_program (ProgramSyntax at) = BadProgram (ProgramSyntax at)
of_program (ProgramUnknown at) = BadProgram (ProgramUnknown at)
of_program (ProgramWrong fault) = BadProgram (ProgramWrong fault)
of_program NoProgramMemory = NoMemory
