-- Why a request is refused, put together from its steps.
use Rattle.std.proofs.Common.{ℕ, ◌≡◌, ◌≤◌, List, Option, Result, Ok, Err, inl, inr, length, sym, subst, arith}
use Rattle.std.specs.Prelude.{IfErr, IfOk}
use Rattle.rh_outside.specs.Faults.{Rises}
use Rattle.rh_report.specs.declared.status.Part.{Part}
use Rattle.rh_report.specs.declared.status.Status.{Status}
use Rattle.rh_report.specs.declared.status.Status.TheVariants.{Done, Usage, ReadFault, TooLong, BadRules, BadProgram, TooLarge, WriteFault, BadLog, NoMemory}
use Rattle.rh_top.specs.Call.{Source, MayBe}
use Rattle.rh_il.specs.declared.program.Proc.{Proc}
use Rattle.rh_rule.specs.RuleFiles.{Rules}
use Rattle.rh_top.specs.Refusals.{First, later}
use Rattle.rh_top.specs.Files.{AcceptsProgram, AcceptsRules, RefusesRead, RefusesSource, SpellProgram, SpellRules, text_refused, unread}

-- a count that rose after it did not fall rose
rises_from : (old middle new : ℕ) → old ≤ middle → Rises middle new → Rises old new
rises_from old middle new le (inl rose) = inl (omega (arith, le, rose))
rises_from old middle new le (inr last) = inr last

-- what is refused from a later moment on is refused from an earlier one on
read_refused_since : (part : Part) (most : ℕ) (held : Option (List ℕ)) (old middle new : ℕ) (status : Status) → old ≤ middle
    → RefusesRead part most (record { held = held; faults_before = middle; faults_after = new }) status
    → RefusesRead part most (record { held = held; faults_before = old; faults_after = new }) status
read_refused_since part most held old middle new Done le refuses = refuses
read_refused_since part most held old middle new (Usage place) le refuses = refuses
read_refused_since part most held old middle new (ReadFault which) le refuses = (refuses.0, rises_from old middle new le refuses.1)
read_refused_since part most held old middle new (TooLong which) le refuses = refuses
read_refused_since part most held old middle new (BadRules fault) le refuses = refuses
read_refused_since part most held old middle new (BadProgram fault) le refuses = refuses
read_refused_since part most held old middle new (TooLarge large) le refuses = refuses
read_refused_since part most held old middle new (WriteFault count) le refuses = refuses
read_refused_since part most held old middle new (BadLog line) le refuses = refuses
read_refused_since part most held old middle new NoMemory le refuses = refuses

module _ (part : Part) (most : ℕ) (RefusesText : List ℕ → Status → Type 0) where
  source_refused_since : (held : Option (List ℕ)) (old middle new : ℕ) (status : Status) → old ≤ middle
      → RefusesSource part most RefusesText (record { held = held; faults_before = middle; faults_after = new }) status
      → RefusesSource part most RefusesText (record { held = held; faults_before = old; faults_after = new }) status
  source_refused_since held old middle new status le (unread refuses) = unread (read_refused_since part most held old middle new status le refuses)
  source_refused_since held old middle new status le (text_refused bytes told within refuses) = text_refused bytes told within refuses

  -- the same where the shelf holds at the later moment what it held before
  pub refused_since : (before after : Option (List ℕ)) (old middle new : ℕ) (status : Status) → after ≡ before → old ≤ middle
      → RefusesSource part most RefusesText (record { held = after; faults_before = middle; faults_after = new }) status
      → RefusesSource part most RefusesText (record { held = before; faults_before = old; faults_after = new }) status
  refused_since before after old middle new status same le refuses =
      subst (λ held. RefusesSource part most RefusesText (record { held = held; faults_before = old; faults_after = new }) status) same
      (source_refused_since after old middle new status le refuses)

  -- a source is refused where its text is
  pub refused_by_text : {X : Type 0} (source : Source) (bytes : List ℕ) (result : Result X Status) → MayBe source.held bytes → length bytes ≤ most
      → IfErr result (RefusesText bytes) → IfErr result (RefusesSource part most RefusesText source)
  refused_by_text source bytes (Ok x) told within refuses = tt
  refused_by_text source bytes (Err status) told within refuses = text_refused bytes told within refuses

  -- it is refused where it is not read
  pub refused_unread : {X Y : Type 0} (source : Source) (failed : Result X Status) (result : Result Y Status) (status : Status) → IfErr failed (RefusesRead part most source) → failed ≡ Err status → result ≡ Err status
      → IfErr result (RefusesSource part most RefusesText source)
  refused_unread source failed result status refuses is also =
      subst (λ r. IfErr r (RefusesSource part most RefusesText source)) (sym also) (unread (subst (λ r. IfErr r (RefusesRead part most source)) is refuses))

-- ---- what is accepted

pub rules_accepted : (held : Option (List ℕ)) (bytes : List ℕ) (result : Result Rules Status) → MayBe held bytes → IfOk result (SpellRules bytes) → IfOk result (AcceptsRules held)
rules_accepted held bytes (Ok rules) told spelled = record { bytes = bytes; told = told; spelled = spelled }
rules_accepted held bytes (Err status) told spelled = tt

pub program_accepted : (held : Option (List ℕ)) (bytes : List ℕ) (result : Result (List Proc) Status) → MayBe held bytes → IfOk result (SpellProgram bytes) → IfOk result (AcceptsProgram held)
program_accepted held bytes (Ok procs) told spelled = record { bytes = bytes; told = told; spelled = spelled }
program_accepted held bytes (Err status) told spelled = tt

-- ---- steps

-- the first step accepted, and what comes after it refuses
pub first_later : {X : Type 0} (A : Type 0) (Refuses : Status → Type 0) (Accepts : A → Type 0) (Later : A → Status → Type 0) (a : A) (result : Result X Status) → Accepts a → IfErr result (Later a)
    → IfErr result (First A Refuses Accepts Later)
first_later A Refuses Accepts Later a (Ok x) accepts refuses = tt
first_later A Refuses Accepts Later a (Err status) accepts refuses = later a accepts refuses
