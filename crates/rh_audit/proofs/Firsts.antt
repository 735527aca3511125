-- Where the walk stops, the first line is at fault.
use Rattle.std.proofs.Common.{◌≡◌, ℕ, zero, suc, ◌<◌, ◌≤◌, List, length, Option, None, Some, refl, ap, sym, subst, ◌∙◌, arith, inl, inr}
use Rattle.std.proofs.lemmas.Bool.{cases_eq, cases_lt, cases_order}
use Rattle.std.proofs.lemmas.Option.{none-some, same_Some, slice_get_within}
use Rattle.std.specs.Prelude.{slice_get}
use Rattle.rh_admit.specs.Admission.{Part}
use Rattle.rh_list.proofs.AtPlace.{read_at}
use Rattle.rh_log_text.specs.declared.logs.PlacedLog.{PlacedLog}
use Rattle.rh_log_text.specs.declared.logs.RuleLogs.{RuleLogs}
use Rattle.rh_log_text.specs.Text.{IsLogText}
use Rattle.rh_rule.specs.declared.rule.Rule.{Rule}
use Rattle.rh_rule.specs.RuleFiles.{IsRuleFile, Rules}
use Rattle.rh_audit.specs.declared.fault.AuditFault.{AuditFault}
use Rattle.rh_audit.specs.declared.fault.AuditFault.TheVariants.{BadLog, TooManyTerms, NoMemory}
use Rattle.rh_audit.specs.Audit.{HaveFewTerms, RefusesAudit, by_logs}
use Rattle.rh_audit.specs.Faults.{IsAtFault, IsFirstFault, IsOf, parts_in, no_rule, out_of_order, misnumbered, past_last, not_closed, too_few}
use Rattle.rh_audit.specs.Walk.{Breaks, IsProof, Stops, StopsWith, at_log as log_breaks, at_end as end_breaks, at_name as name_stops, at_logs as logs_stop}
use Rattle.rh_audit.proofs.Distinct.{any_rule}
use Rattle.rh_audit.proofs.Locating.{IsIn, located, at_name, at_log, at_end}
use Rattle.rh_audit.proofs.Passing.{HasPassed, follows, no_fault_in}
use Rattle.rh_audit.proofs.Rising.{LogsRise, SectionsRise, log_from, log_to, logs_in_order, logs_of_section, section_within, sections_in_order, sections_of_text}

past_the_end : {X : Type 0} (xs : List X) (i : ℕ) → slice_get xs i ≡ None → length xs ≤ i
past_the_end xs i none = elim (cases_lt i (length xs)) [
  | inl below ↦ let here = read_at xs i below in absurd (none-some here.0 (sym none ∙ here.1))
  | inr past ↦ past
]

module _ (file : Rules) (sections : List RuleLogs) (place : ℕ) (section : RuleLogs) (stands : slice_get sections place ≡ Some section) where
  -- a log that proves nothing begins at a line at fault
  log_at_fault : (number : ℕ) (rule : Rule) (next : ℕ) (log : PlacedLog) (line : ℕ) → IsOf file section number rule → slice_get section.logs next ≡ Some log
      → ¬ (IsProof (parts_in file rule) next log) → line ≡ log.line → IsAtFault file sections line
  log_at_fault number rule next log line of at no_proof is = elim (cases_eq log.number next) [
    | inl same ↦ numbered same (slice_get (parts_in file rule) log.number) refl
    | inr differs ↦ misnumbered place section next log stands at differs is
  ]
    where
      numbered : log.number ≡ next → (there : Option Part) → slice_get (parts_in file rule) log.number ≡ there → IsAtFault file sections line
      numbered same None there = past_last place section number rule next log stands of at (past_the_end (parts_in file rule) log.number there) is
      numbered same (Some part) there =
          not_closed place section number rule next log part stands of at there
          (λ closed. no_proof (record { numbered = same; part = part; stands = subst (λ n. slice_get (parts_in file rule) n ≡ Some part) same there; closed = closed })) is

  breaks_at_fault : (number : ℕ) (rule : Rule) (line : ℕ) → IsOf file section number rule → Breaks (parts_in file rule) section line → IsAtFault file sections line
  breaks_at_fault number rule line of (log_breaks next log at before no_proof is) = log_at_fault number rule next log line of at no_proof is
  breaks_at_fault number rule line of (end_breaks proofs few is) = too_few place section number rule stands of few is

-- the section before one that is not the first
section_before : (file : Rules) (sections : List RuleLogs) (place next number : ℕ) (section : RuleLogs) → slice_get sections place ≡ Some section → HasPassed file sections place next → number < next
    → (earlier : ℕ) × (before : RuleLogs) × (slice_get sections earlier ≡ Some before) × (place ≡ suc earlier)
section_before file sections zero next number section stands passed below = let start = passed.start refl in absurd (omega (arith, start, below))
section_before file sections (suc earlier) next number section stands passed below =
    let within = slice_get_within sections (suc earlier) section stands in
    let here = read_at sections earlier (omega (arith, within)) in
    (earlier, here.0, here.1, refl)

module _ (file : Rules) (sections : List RuleLogs) (place next : ℕ) (section : RuleLogs) (line : ℕ) (is_file : IsRuleFile file) (stands : slice_get sections place ≡ Some section)
    (passed : HasPassed file sections place next) where
  -- a section whose rule is before the next one
  early_at_fault : (number : ℕ) (rule : Rule) → IsOf file section number rule → number < next → line ≡ section.line → IsAtFault file sections line
  early_at_fault number rule of below is =
      let before = section_before file sections place next number section stands passed below in
      let follows = passed.following before.0 before.1 (omega (arith, before.3)) before.2 in
      let last = passed.last before.0 before.1 follows.number follows.rule (sym before.3) before.2 follows.is_of in
      out_of_order before.0 before.1 section follows.number number follows.rule rule before.2 (subst (λ n. slice_get sections n ≡ Some section) before.3 stands) follows.is_of of
      (omega (arith, last, below)) is

  name_at_fault : ((number : ℕ) (rule : Rule) → next ≤ number → ¬ (IsOf file section number rule)) → line ≡ section.line → IsAtFault file sections line
  name_at_fault none is = elim (any_rule file.rules section.name) [
    | inl there ↦ named there.0 there.1 (record { stands = there.2; named = there.3 })
    | inr nowhere ↦ no_rule place section stands (λ number rule of. nowhere number rule of.stands of.named) is
  ]
    where
      named : (number : ℕ) (rule : Rule) → IsOf file section number rule → IsAtFault file sections line
      named number rule of = elim (cases_lt number next) [
        | inl below ↦ early_at_fault number rule of below is
        | inr after ↦ absurd (none number rule after of)
      ]

  at_fault_there : Stops file next section line → IsAtFault file sections line
  at_fault_there (name_stops none is) = name_at_fault none is
  at_fault_there (logs_stop number rule of after breaks) = breaks_at_fault file sections place section stands number rule line of breaks

  module _ (rise : SectionsRise 1 sections) where
    logs_rise_here : LogsRise section.line section.end section.logs
    logs_rise_here = logs_of_section 1 sections place section rise stands

    -- the line at which the walk stops is within its section
    breaks_before_end : (parts : List Part) → Breaks parts section line → line ≤ section.end
    breaks_before_end parts (log_breaks k log at before no_proof is) = let below = log_to section.line section.end section.logs k log logs_rise_here at in omega (arith, is, below)
    breaks_before_end parts (end_breaks proofs few is) = omega (arith, is)

    before_end : Stops file next section line → line ≤ section.end
    before_end (name_stops none is) = let below = section_within section logs_rise_here in omega (arith, is, below)
    before_end (logs_stop number rule of after breaks) = breaks_before_end (parts_in file rule) breaks

    -- a line at fault of a section is within it
    after_begin : (there : ℕ) (other : RuleLogs) (at_fault : ℕ) → slice_get sections there ≡ Some other → IsIn file sections there other at_fault → other.line ≤ at_fault
    after_begin there other at_fault at (at_name not_following is) = omega (arith, is)
    after_begin there other at_fault at (at_log k log at_k no_proof is) =
        let above = log_from other.line other.end other.logs k log (logs_of_section 1 sections there other rise at) at_k in omega (arith, is, above)
    after_begin there other at_fault at (at_end few is) = let above = section_within other (logs_of_section 1 sections there other rise at) in omega (arith, is, above)

    first_of_breaks : (number : ℕ) (rule : Rule) (at_fault : ℕ) → IsOf file section number rule → next ≤ number → Breaks (parts_in file rule) section line
        → IsIn file sections place section at_fault → line ≤ at_fault
    first_of_breaks number rule at_fault of after breaks (at_name not_following is) = absurd (not_following (follows file sections place next section number rule passed of after))
    first_of_breaks number rule at_fault of after (log_breaks k log at before no_proof is) (at_log j other at_j no_other_proof other_is) = elim (cases_lt j k) [
      | inl earlier ↦ absurd (no_other_proof number rule of (before j other earlier at_j))
      | inr later ↦ let order = logs_in_order section.line section.end section.logs k j log other logs_rise_here later at at_j in omega (arith, is, order, other_is)
    ]
    first_of_breaks number rule at_fault of after (end_breaks proofs few is) (at_log j other at_j no_other_proof other_is) =
        absurd (no_other_proof number rule of (proofs j other (slice_get_within section.logs j other at_j) at_j))
    first_of_breaks number rule at_fault of after breaks (at_end few is) = let below = breaks_before_end (parts_in file rule) breaks in omega (arith, is, below)

    first_here : (at_fault : ℕ) → Stops file next section line → IsIn file sections place section at_fault → line ≤ at_fault
    first_here at_fault (name_stops none is) fault = let above = after_begin place section at_fault stands fault in omega (arith, is, above)
    first_here at_fault (logs_stop number rule of after breaks) fault = first_of_breaks number rule at_fault of after breaks fault

    first_at : (there : ℕ) (other : RuleLogs) (at_fault : ℕ) → Stops file next section line → slice_get sections there ≡ Some other → IsIn file sections there other at_fault → line ≤ at_fault
    first_at there other at_fault stops at fault = elim (cases_order there place) [
      | inl same ↦
          let section_is : other ≡ section = same_Some other section (sym at ∙ ap (slice_get sections) same ∙ stands) in
          first_here at_fault stops
          (subst (λ (s : RuleLogs). IsIn file sections place s at_fault) section_is (subst (λ n. IsIn file sections n other at_fault) same fault))
      | inr which ↦ elim which [
        | inl earlier ↦ absurd (no_fault_in file sections place next passed there other at_fault earlier at fault)
        | inr later ↦
            let order = sections_in_order 1 sections place there section other rise later stands at in
            let end = before_end stops in
            let above = after_begin there other at_fault at fault in
            omega (arith, order, end, above)
      ]
    ]

    pub first_fault : Stops file next section line → IsFirstFault file sections line
    first_fault stops = record {
      at_fault = at_fault_there stops;
      first = λ other at_fault.
          let there = located file sections other is_file at_fault in
          first_at there.place there.section other stops there.stands there.fault;
    }

-- and the logs are refused
pub refuses : (file : Rules) (sections : List RuleLogs) (place next : ℕ) (section : RuleLogs) (fault : AuditFault) → IsRuleFile file → slice_get sections place ≡ Some section
    → HasPassed file sections place next → HaveFewTerms file → StopsWith file next section fault → (text : List ℕ) → IsLogText text sections → RefusesAudit file text fault
refuses file sections place next section (BadLog line) is_file stands passed few stops text is =
    by_logs sections is few (first_fault file sections place next section line is_file stands passed (sections_of_text text sections is) stops)
refuses file sections place next section (TooManyTerms rule count) is_file stands passed few stops text is = absurd stops
refuses file sections place next section NoMemory is_file stands passed few stops text is = tt

-- where no line is at fault, the walk stops only when out of memory
pub spares : (file : Rules) (sections : List RuleLogs) (place next : ℕ) (section : RuleLogs) (fault : AuditFault) → IsRuleFile file → slice_get sections place ≡ Some section
    → HasPassed file sections place next → StopsWith file next section fault → ((line : ℕ) → ¬ (IsAtFault file sections line)) → fault ≡ NoMemory
spares file sections place next section (BadLog line) is_file stands passed stops faultless =
    absurd (faultless line (at_fault_there file sections place next section line is_file stands passed stops))
spares file sections place next section (TooManyTerms rule count) is_file stands passed stops faultless = absurd stops
spares file sections place next section NoMemory is_file stands passed stops faultless = refl
