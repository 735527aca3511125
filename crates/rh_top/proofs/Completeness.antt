-- With good files a call is done, or memory ran out.
use Rattle.std.proofs.Common.{ℕ, suc, ◌≡◌, ◌≤◌, List, Option, Some, refl, ap, ◌∙◌, length, subst, arith}
use Rattle.std.specs.Prelude.{IfSome}
use Rattle.rh_admit.specs.Rules.{IsFirstExcess}
use Rattle.rh_audit.specs.Audit.{HaveFewTerms, IsAccepted, IsAudited}
use Rattle.rh_il.specs.declared.program.Proc.{Proc}
use Rattle.rh_il_text.proofs.OneReading.{one_program, texts_have_no_fault as programs_have_no_fault}
use Rattle.rh_il_text.specs.Program.{IsText as IsProgramText}
use Rattle.rh_report.specs.declared.status.Large.TheVariants.{Facts, Terms, Words}
use Rattle.rh_report.specs.declared.status.Part.{Part}
use Rattle.rh_report.specs.declared.status.Part.TheVariants.{Log}
use Rattle.rh_report.specs.declared.status.Status.{Status}
use Rattle.rh_report.specs.declared.status.Status.TheVariants.{Done, Usage, ReadFault, TooLong, BadRules, BadProgram, TooLarge, WriteFault, BadLog, NoMemory}
use Rattle.rh_rule.specs.RuleFiles.{Rules}
use Rattle.rh_rule_text.proofs.OneReading.{one_rule_file, texts_have_no_fault as rules_have_no_fault}
use Rattle.rh_rule_text.specs.Reading.{IsText as IsRulesText}
use Rattle.rh_top.specs.Call.{Reads, Source, Writes, MayBe, ReadFails}
use Rattle.rh_top.specs.Complete.{AreGood, AreGoodLogs, AreGoodRules, GivesLogs, GivesProgram, GivesRules, HasGoodFiles, IsDoneOrNothing, IsGood}
use Rattle.rh_top.specs.Counts.{HaveRoom, RefusesCounts, RefusesFacts, RefusesTerms, by_facts, by_terms}
use Rattle.rh_top.specs.Ends.{Ends}
use Rattle.rh_top.specs.Files.{AcceptsProgram, AcceptsRules, RefusesProgram, RefusesProgramText, RefusesRead, RefusesRules, RefusesRulesText, RefusesSource, most_bytes, most_log_bytes, text_refused, unread}
use Rattle.rh_top.specs.Refusals.{First, IsRefused, RefusedOfBoth, RefusedOfLogs, RefusedOfRules, RefusesLogText, at_first, later, of_audit}
use Rattle.rh_top.specs.Requests.{Request, audit, check, gen, opt, prove, run}

-- ---- texts

-- these are the bytes that are told
told_are : (held : Option (List ℕ)) (bytes other : List ℕ) → held ≡ Some bytes → MayBe held other → other ≡ bytes
told_are held bytes other is told = subst (λ o. IfSome o (λ b. other ≡ b)) is told

-- a file that is short and of which no read failed is refused for want of memory alone
read_memory : (part : Part) (most : ℕ) (source : Source) (bytes : List ℕ) (status : Status) → source.held ≡ Some bytes → length bytes ≤ most → (ReadFails source → ⊥) → RefusesRead part most source status → status ≡ NoMemory
read_memory part most source bytes (ReadFault which) held short calm refuses = absurd (calm refuses.1)
read_memory part most source bytes (TooLong which) held short calm refuses =
    let long = subst (λ o. IfSome o (λ b. suc most ≤ length b)) held refuses.1 in
    absurd (omega (arith, short, long))
read_memory part most source bytes NoMemory held short calm refuses = refl
read_memory part most source bytes Done held short calm refuses = absurd refuses
read_memory part most source bytes (Usage place) held short calm refuses = absurd refuses
read_memory part most source bytes (BadRules fault) held short calm refuses = absurd refuses
read_memory part most source bytes (BadProgram fault) held short calm refuses = absurd refuses
read_memory part most source bytes (TooLarge large) held short calm refuses = absurd refuses
read_memory part most source bytes (WriteFault count) held short calm refuses = absurd refuses
read_memory part most source bytes (BadLog line) held short calm refuses = absurd refuses

rules_text_memory : (bytes : List ℕ) (file : Rules) (status : Status) → IsRulesText bytes file → RefusesRulesText bytes status → status ≡ NoMemory
rules_text_memory bytes file (BadRules fault) text refuses = absurd (refuses.1 (rules_have_no_fault bytes file fault text refuses.0))
rules_text_memory bytes file NoMemory text refuses = refl
rules_text_memory bytes file Done text refuses = absurd refuses
rules_text_memory bytes file (Usage place) text refuses = absurd refuses
rules_text_memory bytes file (ReadFault which) text refuses = absurd refuses
rules_text_memory bytes file (TooLong which) text refuses = absurd refuses
rules_text_memory bytes file (BadProgram fault) text refuses = absurd refuses
rules_text_memory bytes file (TooLarge large) text refuses = absurd refuses
rules_text_memory bytes file (WriteFault count) text refuses = absurd refuses
rules_text_memory bytes file (BadLog line) text refuses = absurd refuses

program_text_memory : (bytes : List ℕ) (procs : List Proc) (status : Status) → IsProgramText bytes procs → RefusesProgramText bytes status → status ≡ NoMemory
program_text_memory bytes procs (BadProgram fault) text refuses = absurd (refuses.1 (programs_have_no_fault bytes procs fault text refuses.0))
program_text_memory bytes procs NoMemory text refuses = refl
program_text_memory bytes procs Done text refuses = absurd refuses
program_text_memory bytes procs (Usage place) text refuses = absurd refuses
program_text_memory bytes procs (ReadFault which) text refuses = absurd refuses
program_text_memory bytes procs (TooLong which) text refuses = absurd refuses
program_text_memory bytes procs (BadRules fault) text refuses = absurd refuses
program_text_memory bytes procs (TooLarge large) text refuses = absurd refuses
program_text_memory bytes procs (WriteFault count) text refuses = absurd refuses
program_text_memory bytes procs (BadLog line) text refuses = absurd refuses

log_text_memory : (file : Rules) (bytes out : List ℕ) (status : Status) → IsAudited file bytes out → RefusesLogText file bytes status → status ≡ NoMemory
log_text_memory file bytes out status audited (fault, refuses, spared, is) =
    let accepted : IsAccepted file bytes = record { sections = audited.sections; is_text = audited.is_text; few = audited.few; faultless = audited.faultless } in
    is ∙ ap of_audit (spared accepted)

source_memory : (part : Part) (most : ℕ) (RefusesText : List ℕ → Status → Type 0) (source : Source) (bytes : List ℕ) (status : Status) → source.held ≡ Some bytes → length bytes ≤ most → (ReadFails source → ⊥)
    → (RefusesText bytes status → status ≡ NoMemory) → RefusesSource part most RefusesText source status → status ≡ NoMemory
source_memory part most RefusesText source bytes status held short calm text (unread refuses) = read_memory part most source bytes status held short calm refuses
source_memory part most RefusesText source bytes status held short calm text (text_refused other told within refuses) =
    text (subst (λ b. RefusesText b status) (told_are source.held bytes other held told) refuses)

rules_memory : (source : Source) (file : Rules) (status : Status) → GivesRules source file → RefusesRules source status → status ≡ NoMemory
rules_memory source file status gives = source_memory _ most_bytes RefusesRulesText source gives.bytes status gives.held gives.spelled.within gives.calm (rules_text_memory gives.bytes file status gives.spelled.text)

program_memory : (source : Source) (procs : List Proc) (status : Status) → GivesProgram source procs → RefusesProgram source status → status ≡ NoMemory
program_memory source procs status gives = source_memory _ most_bytes RefusesProgramText source gives.bytes status gives.held gives.spelled.within gives.calm (program_text_memory gives.bytes procs status gives.spelled.text)

log_memory : (source : Source) (file : Rules) (status : Status) → GivesLogs source file → RefusesSource Log most_log_bytes (RefusesLogText file) source status → status ≡ NoMemory
log_memory source file status gives = source_memory Log most_log_bytes (RefusesLogText file) source gives.bytes status gives.held gives.within gives.calm (log_text_memory file gives.bytes gives.text status gives.audited)

-- what is accepted is what the source gives
one_file : (source : Source) (file other : Rules) → GivesRules source file → AcceptsRules source.held other → file ≡ other
one_file source file other gives accepts =
    one_rule_file gives.bytes file other gives.spelled.text (subst (λ b. IsRulesText b other) (told_are source.held gives.bytes accepts.bytes gives.held accepts.told) accepts.spelled.text)

one_list : (source : Source) (procs other : List Proc) → GivesProgram source procs → AcceptsProgram source.held other → procs ≡ other
one_list source procs other gives accepts =
    one_program gives.bytes procs other gives.spelled.text (subst (λ b. IsProgramText b other) (told_are source.held gives.bytes accepts.bytes gives.held accepts.told) accepts.spelled.text)

-- ---- counted quantities

no_excess : (file : Rules) (rule count : ℕ) → HaveFewTerms file → IsFirstExcess file.schemas file.rules rule count → ⊥
no_excess file rule count few excess =
    let none = few rule excess.rule excess.stands in
    let large = excess.large in
    absurd cc

terms_memory : (file : Rules) (status : Status) → HaveFewTerms file → RefusesTerms file status → status ≡ NoMemory
terms_memory file (TooLarge (Terms rule count)) few refuses = absurd (no_excess file rule count few refuses)
terms_memory file (TooLarge (Facts proc count)) few refuses = absurd refuses
terms_memory file (TooLarge (Words count)) few refuses = absurd refuses
terms_memory file NoMemory few refuses = refl
terms_memory file Done few refuses = absurd refuses
terms_memory file (Usage place) few refuses = absurd refuses
terms_memory file (ReadFault which) few refuses = absurd refuses
terms_memory file (TooLong which) few refuses = absurd refuses
terms_memory file (BadRules fault) few refuses = absurd refuses
terms_memory file (BadProgram fault) few refuses = absurd refuses
terms_memory file (WriteFault count) few refuses = absurd refuses
terms_memory file (BadLog line) few refuses = absurd refuses

facts_memory : (file : Rules) (procs : List Proc) (status : Status) → HaveRoom file procs → RefusesFacts file procs status → status ≡ NoMemory
facts_memory file procs (TooLarge (Terms rule count)) room refuses = absurd refuses
facts_memory file procs (TooLarge (Facts proc count)) room refuses =
    let few = room.few_facts proc refuses.proc refuses.proc_at in
    let is = refuses.count_is in
    let many = refuses.many in
    absurd (omega (arith, few, is, many))
facts_memory file procs (TooLarge (Words count)) room refuses =
    let few = room.few_words in
    let is = refuses.count_is in
    let many = refuses.many in
    absurd (omega (arith, few, is, many))
facts_memory file procs NoMemory room refuses = refl
facts_memory file procs Done room refuses = absurd refuses
facts_memory file procs (Usage place) room refuses = absurd refuses
facts_memory file procs (ReadFault which) room refuses = absurd refuses
facts_memory file procs (TooLong which) room refuses = absurd refuses
facts_memory file procs (BadRules fault) room refuses = absurd refuses
facts_memory file procs (BadProgram fault) room refuses = absurd refuses
facts_memory file procs (WriteFault count) room refuses = absurd refuses
facts_memory file procs (BadLog line) room refuses = absurd refuses

counts_memory : (file : Rules) (procs : List Proc) (status : Status) → HaveFewTerms file → HaveRoom file procs → RefusesCounts file procs status → status ≡ NoMemory
counts_memory file procs status few room (by_terms refuses) = terms_memory file status few refuses
counts_memory file procs status few room (by_facts few' refuses) = facts_memory file procs status room refuses

-- ---- requests

first_memory : (A : Type 0) (Refuses : Status → Type 0) (Accepts : A → Type 0) (Later : A → Status → Type 0) (status : Status) → (Refuses status → status ≡ NoMemory)
    → ((a : A) → Accepts a → Later a status → status ≡ NoMemory) → First A Refuses Accepts Later status → status ≡ NoMemory
first_memory A Refuses Accepts Later status first others (at_first refuses) = first refuses
first_memory A Refuses Accepts Later status first others (later a accepts refuses) = others a accepts refuses

one_memory : (rules : Source) (status : Status) → AreGoodRules rules → RefusedOfRules rules status → status ≡ NoMemory
one_memory rules status good =
    first_memory Rules _ _ _ status (rules_memory rules good.file status good.gives)
    (λ file accepts refuses. terms_memory file status (subst HaveFewTerms (one_file rules good.file file good.gives accepts) good.few_terms) refuses)

both_memory : (rules program : Source) (status : Status) → AreGood rules program → RefusedOfBoth rules program status → status ≡ NoMemory
both_memory rules program status good =
    first_memory Rules _ _ _ status (rules_memory rules good.file status good.gives_rules)
    (λ file accepts.
    first_memory (List Proc) _ _ _ status (program_memory program good.procs status good.gives_program)
    (λ procs accepts' refuses.
    let same = one_file rules good.file file good.gives_rules accepts in
    let same' = one_list program good.procs procs good.gives_program accepts' in
    counts_memory file procs status (subst HaveFewTerms same good.few_terms) (subst (λ f. HaveRoom f procs) same (subst (HaveRoom good.file) same' good.room)) refuses))

logs_memory : (rules log : Source) (status : Status) → AreGoodLogs rules log → RefusedOfLogs rules log status → status ≡ NoMemory
logs_memory rules log status good =
    first_memory Rules _ _ _ status (rules_memory rules good.file status good.gives_rules)
    (λ file accepts. log_memory log file status (subst (GivesLogs log) (one_file rules good.file file good.gives_rules accepts) good.gives_logs))

memory : (reads : Reads) (request : Request) (status : Status) → HasGoodFiles reads request → IsRefused reads request status → status ≡ NoMemory
memory reads (opt workers rules program) status good refused = both_memory _ _ status good refused
memory reads (check rules) status good refused = one_memory _ status good refused
memory reads (prove rules) status good refused = one_memory _ status good refused
memory reads (audit rules log) status good refused = logs_memory _ _ status good refused
memory reads (run steps program arg) status good refused = program_memory _ good.procs status good.gives refused
memory reads (gen workers n) status good refused = both_memory _ _ status good refused

module _ (reads : Reads) (writes : Writes) (request : Request) (good : IsGood reads writes request) where
  refusal : (status : Status) → IsRefused reads request status → status ≡ NoMemory
  refusal status = memory reads request status good.files

  pub done_or_nothing : (status : Status) → Ends reads writes request status → IsDoneOrNothing writes status
  done_or_nothing Done ends = tt
  done_or_nothing (Usage place) ends = let is : Usage place ≡ NoMemory = refusal (Usage place) ends.0 in absurd cc
  done_or_nothing (ReadFault part) ends = let is : ReadFault part ≡ NoMemory = refusal (ReadFault part) ends.0 in absurd cc
  done_or_nothing (TooLong part) ends = let is : TooLong part ≡ NoMemory = refusal (TooLong part) ends.0 in absurd cc
  done_or_nothing (BadRules fault) ends = let is : BadRules fault ≡ NoMemory = refusal (BadRules fault) ends.0 in absurd cc
  done_or_nothing (BadProgram fault) ends = let is : BadProgram fault ≡ NoMemory = refusal (BadProgram fault) ends.0 in absurd cc
  done_or_nothing (TooLarge large) ends = let is : TooLarge large ≡ NoMemory = refusal (TooLarge large) ends.0 in absurd cc
  done_or_nothing (WriteFault count) (text, made, wrote, less, fails) = good.calm fails
  done_or_nothing (BadLog line) ends = let is : BadLog line ≡ NoMemory = refusal (BadLog line) ends.0 in absurd cc
  done_or_nothing NoMemory ends = ends.1
