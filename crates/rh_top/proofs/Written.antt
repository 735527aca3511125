-- No step refuses with the status of a write.
use Rattle.std.proofs.Common.{ℕ, List, subst}
use Rattle.rh_audit.specs.declared.fault.AuditFault.{AuditFault}
use Rattle.rh_audit.specs.declared.fault.AuditFault.TheVariants.{BadLog as IsBadLog, TooManyTerms, NoMemory as NoAuditMemory}
use Rattle.rh_il.specs.declared.program.Proc.{Proc}
use Rattle.rh_report.specs.declared.status.Part.{Part}
use Rattle.rh_report.specs.declared.status.Status.{Status}
use Rattle.rh_report.specs.declared.status.Status.TheVariants.{Done, Usage, ReadFault, TooLong, BadRules, BadProgram, TooLarge, WriteFault, BadLog, NoMemory}
use Rattle.rh_rule.specs.RuleFiles.{Rules}
use Rattle.rh_top.specs.Call.{Reads, Source, Writes, WroteNothing}
use Rattle.rh_top.specs.Counts.{RefusesCounts, RefusesFacts, RefusesTerms, by_facts, by_terms}
use Rattle.rh_top.specs.Ends.{Ends}
use Rattle.rh_top.specs.Files.{RefusesProgram, RefusesProgramText, RefusesRead, RefusesRules, RefusesRulesText, RefusesSource, text_refused, unread}
use Rattle.rh_top.specs.Refusals.{First, IsRefused, RefusedOfBoth, RefusedOfLogs, RefusedOfRules, RefusesLogText, at_first, later, of_audit}
use Rattle.rh_top.specs.Requests.{Request, audit, check, gen, opt, prove, run}

-- the statuses of a call that made its output
abbrev IsWritten : Status → Type 0
IsWritten Done = Unit {0}
IsWritten (WriteFault count) = Unit {0}
IsWritten _ = ⊥

-- no status of the kind is one with which a step refuses
abbrev Never : (Status → Type 0) → Type 0
Never Refuses = (status : Status) → IsWritten status → Refuses status → ⊥

read : (part : Part) (most : ℕ) (source : Source) → Never (RefusesRead part most source)
read part most source Done is refuses = refuses
read part most source (WriteFault count) is refuses = refuses
read part most source _ is refuses = absurd is

rules_text : (bytes : List ℕ) → Never (RefusesRulesText bytes)
rules_text bytes Done is refuses = refuses
rules_text bytes (WriteFault count) is refuses = refuses
rules_text bytes _ is refuses = absurd is

program_text : (bytes : List ℕ) → Never (RefusesProgramText bytes)
program_text bytes Done is refuses = refuses
program_text bytes (WriteFault count) is refuses = refuses
program_text bytes _ is refuses = absurd is

audit_status : (fault : AuditFault) → IsWritten (of_audit fault) → ⊥
audit_status (IsBadLog line) is = is
audit_status (TooManyTerms rule count) is = is
audit_status NoAuditMemory is = is

log_text : (file : Rules) (bytes : List ℕ) → Never (RefusesLogText file bytes)
log_text file bytes status is (fault, refuses, spared, status_is) = audit_status fault (subst IsWritten status_is is)

terms : (file : Rules) → Never (RefusesTerms file)
terms file Done is refuses = refuses
terms file (WriteFault count) is refuses = refuses
terms file _ is refuses = absurd is

facts : (file : Rules) (procs : List Proc) → Never (RefusesFacts file procs)
facts file procs Done is refuses = refuses
facts file procs (WriteFault count) is refuses = refuses
facts file procs _ is refuses = absurd is

counts : (file : Rules) (procs : List Proc) → Never (RefusesCounts file procs)
counts file procs status is (by_terms refuses) = terms file status is refuses
counts file procs status is (by_facts few refuses) = facts file procs status is refuses

source_never : (part : Part) (most : ℕ) (RefusesText : List ℕ → Status → Type 0) (source : Source) → ((bytes : List ℕ) → Never (RefusesText bytes)) → Never (RefusesSource part most RefusesText source)
source_never part most RefusesText source text status is (unread refuses) = read part most source status is refuses
source_never part most RefusesText source text status is (text_refused bytes told within refuses) = text bytes status is refuses

first_never : (A : Type 0) (Refuses : Status → Type 0) (Accepts : A → Type 0) (Later : A → Status → Type 0) → Never Refuses → ((a : A) → Never (Later a)) → Never (First A Refuses Accepts Later)
first_never A Refuses Accepts Later first others status is (at_first refuses) = first status is refuses
first_never A Refuses Accepts Later first others status is (later a accepts refuses) = others a status is refuses

rules : (source : Source) → Never (RefusesRules source)
rules source = source_never _ _ RefusesRulesText source rules_text

program : (source : Source) → Never (RefusesProgram source)
program source = source_never _ _ RefusesProgramText source program_text

both : (first second : Source) → Never (RefusedOfBoth first second)
both first second = first_never Rules _ _ _ (rules first) (λ file. first_never (List Proc) _ _ _ (program second) (counts file))

one : (source : Source) → Never (RefusedOfRules source)
one source = first_never Rules _ _ _ (rules source) terms

logs : (first second : Source) → Never (RefusedOfLogs first second)
logs first second = first_never Rules _ _ _ (rules first) (λ file. source_never _ _ (RefusesLogText file) second (log_text file))

request_never : (reads : Reads) (request : Request) → Never (IsRefused reads request)
request_never reads (opt workers first second) status is refuses = both _ _ status is refuses
request_never reads (check first) status is refuses = one _ status is refuses
request_never reads (prove first) status is refuses = one _ status is refuses
request_never reads (audit first second) status is refuses = logs _ _ status is refuses
request_never reads (run steps first arg) status is refuses = program _ status is refuses
request_never reads (gen workers n) status is refuses = both _ _ status is refuses

-- a call that is refused and has written nothing ends so
pub refused_ends : (reads : Reads) (writes : Writes) (request : Request) (status : Status) → IsRefused reads request status → WroteNothing writes → Ends reads writes request status
refused_ends reads writes request Done refused same = absurd (request_never reads request Done tt refused)
refused_ends reads writes request (Usage place) refused same = (refused, same)
refused_ends reads writes request (ReadFault part) refused same = (refused, same)
refused_ends reads writes request (TooLong part) refused same = (refused, same)
refused_ends reads writes request (BadRules fault) refused same = (refused, same)
refused_ends reads writes request (BadProgram fault) refused same = (refused, same)
refused_ends reads writes request (TooLarge large) refused same = (refused, same)
refused_ends reads writes request (WriteFault count) refused same = absurd (request_never reads request (WriteFault count) tt refused)
refused_ends reads writes request (BadLog line) refused same = (refused, same)
refused_ends reads writes request NoMemory refused same = (refused, same)
