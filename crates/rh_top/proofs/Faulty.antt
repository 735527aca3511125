-- Texts with a fault are refused.
use Rattle.std.proofs.Common.{ℕ, List}
use Rattle.rh_il_text.specs.declared.fault.ReadFault.{ReadFault}
use Rattle.rh_il_text.specs.declared.fault.ReadFault.TheVariants.{Lex as ProgramLex, Syntax as ProgramSyntax, Unknown as ProgramUnknown, Program as ProgramWrong, NoMemory as NoProgramMemory}
use Rattle.rh_il_text.specs.Program.{FaultsAs as ProgramFaultsAs}
use Rattle.rh_rule_text.specs.declared.fault.RulesFault.{RulesFault}
use Rattle.rh_rule_text.specs.declared.fault.RulesFault.TheVariants.{Lex as RulesLex, Syntax as RulesSyntax, Unknown as RulesUnknown, Rules as RulesWrong, NoMemory as NoRulesMemory}
use Rattle.rh_rule_text.specs.Reading.{FaultsAs as RulesFaultsAs}
use Rattle.rh_top.specs.Faults.{of_program, of_rules}
use Rattle.rh_top.specs.Files.{RefusesProgramText, RefusesRulesText}

pub rules_refused : (bytes : List ℕ) (fault : RulesFault) → RulesFaultsAs bytes fault → RefusesRulesText bytes (of_rules fault)
rules_refused bytes (RulesLex fault) faults = (faults, λ e. absurd cc)
rules_refused bytes (RulesSyntax at) faults = (faults, λ e. absurd cc)
rules_refused bytes (RulesUnknown at) faults = (faults, λ e. absurd cc)
rules_refused bytes (RulesWrong fault) faults = (faults, λ e. absurd cc)
rules_refused bytes NoRulesMemory faults = tt

pub program_refused : (bytes : List ℕ) (fault : ReadFault) → ProgramFaultsAs bytes fault → RefusesProgramText bytes (of_program fault)
program_refused bytes (ProgramLex fault) faults = (faults, λ e. absurd cc)
program_refused bytes (ProgramSyntax at) faults = (faults, λ e. absurd cc)
program_refused bytes (ProgramUnknown at) faults = (faults, λ e. absurd cc)
program_refused bytes (ProgramWrong fault) faults = (faults, λ e. absurd cc)
program_refused bytes NoProgramMemory faults = tt
