-- Which section a line at fault belongs to, and whether its beginning, a log or its end is at fault.
use Rattle.std.proofs.Common.{◌≡◌, ℕ, suc, ◌<◌, List, length, Some, refl, ap, sym, subst, ◌∙◌, arith}
use Rattle.std.proofs.lemmas.Option.{same_Some, slice_get_within}
use Rattle.std.specs.Prelude.{slice_get}
use Rattle.rh_admit.specs.Admission.{Part}
use Rattle.rh_log_text.specs.declared.logs.PlacedLog.{PlacedLog}
use Rattle.rh_log_text.specs.declared.logs.RuleLogs.{RuleLogs}
use Rattle.rh_rule.specs.declared.rule.Rule.{Rule}
use Rattle.rh_rule.specs.RuleFiles.{IsRuleFile, Rules}
use Rattle.rh_audit.specs.Faults.{Closes, IsAtFault, IsOf, parts_in, no_rule, out_of_order, misnumbered, past_last, not_closed, too_few}
use Rattle.rh_audit.specs.Walk.{IsProof}
use Rattle.rh_audit.proofs.Distinct.{one_rule}

-- the section names a rule after that of the section before
pub record IsFollowing (file : Rules) (sections : List RuleLogs) (place : ℕ) (section : RuleLogs) : Type 0 where
  pub number : ℕ
  pub rule : Rule
  pub is_of : IsOf file section number rule
  pub after : (earlier : ℕ) (before : RuleLogs) (first : ℕ) (other : Rule) → place ≡ suc earlier → slice_get sections earlier ≡ Some before → IsOf file before first other → first < number

-- what is at fault of a section
pub data IsIn (file : Rules) (sections : List RuleLogs) (place : ℕ) (section : RuleLogs) (line : ℕ) : Type 0 where
  at_name : ¬ (IsFollowing file sections place section) → line ≡ section.line → IsIn file sections place section line
  at_log : (next : ℕ) (log : PlacedLog) → slice_get section.logs next ≡ Some log → ((number : ℕ) (rule : Rule) → IsOf file section number rule → ¬ (IsProof (parts_in file rule) next log))
      → line ≡ log.line → IsIn file sections place section line
  at_end : ((number : ℕ) (rule : Rule) → IsOf file section number rule → length section.logs < length (parts_in file rule)) → line ≡ section.end → IsIn file sections place section line

pub record IsLocated (file : Rules) (sections : List RuleLogs) (line : ℕ) : Type 0 where
  pub place : ℕ
  pub section : RuleLogs
  pub stands : slice_get sections place ≡ Some section
  pub fault : IsIn file sections place section line

past_is_no_proof : (parts : List Part) (next : ℕ) (log : PlacedLog) → length parts < suc log.number → ¬ (IsProof parts next log)
past_is_no_proof parts next log past proof =
    let within = slice_get_within parts next proof.part proof.stands in
    omega (arith, within, past, proof.numbered)

open_is_no_proof : (parts : List Part) (next : ℕ) (log : PlacedLog) (part : Part) → slice_get parts log.number ≡ Some part → ¬ (Closes part log.log) → ¬ (IsProof parts next log)
open_is_no_proof parts next log part stands open_tree proof =
    let same : proof.part ≡ part = same_Some proof.part part (sym proof.stands ∙ ap (slice_get parts) (sym proof.numbered) ∙ stands) in
    open_tree (subst (λ (p : Part). Closes p log.log) same proof.closed)

pub located : (file : Rules) (sections : List RuleLogs) (line : ℕ) → IsRuleFile file → IsAtFault file sections line → IsLocated file sections line
located file sections line is_file (no_rule place section stands none is) = record {
  place = place;
  section = section;
  stands = stands;
  fault = at_name (λ follows. none follows.number follows.rule follows.is_of) is;
}
located file sections line is_file (out_of_order place before section earlier number first rule stands_before stands of_before of below is) = record {
  place = suc place;
  section = section;
  stands = stands;
  fault = at_name
      (λ follows.
      let same = (one_rule file section follows.number number follows.rule rule is_file follows.is_of of).0 in
      let after = follows.after place before earlier first refl stands_before of_before in
      omega (arith, same, after, below)) is;
}
located file sections line is_file (misnumbered place section next log stands at differs is) = record {
  place = place;
  section = section;
  stands = stands;
  fault = at_log next log at (λ number rule of proof. differs proof.numbered) is;
}
located file sections line is_file (past_last place section number rule next log stands of at past is) = record {
  place = place;
  section = section;
  stands = stands;
  fault = at_log next log at
      (λ other another of_other proof.
      let same = (one_rule file section other number another rule is_file of_other of).1 in
      past_is_no_proof (parts_in file rule) next log (omega (arith, past)) (subst (λ (r : Rule). IsProof (parts_in file r) next log) same proof)) is;
}
located file sections line is_file (not_closed place section number rule next log part stands of at stands_part open_tree is) = record {
  place = place;
  section = section;
  stands = stands;
  fault = at_log next log at
      (λ other another of_other proof.
      let same = (one_rule file section other number another rule is_file of_other of).1 in
      open_is_no_proof (parts_in file rule) next log part stands_part open_tree (subst (λ (r : Rule). IsProof (parts_in file r) next log) same proof)) is;
}
located file sections line is_file (too_few place section number rule stands of few is) = record {
  place = place;
  section = section;
  stands = stands;
  fault = at_end
      (λ other another of_other.
      let same = (one_rule file section number other rule another is_file of of_other).1 in
      subst (λ (r : Rule). length section.logs < length (parts_in file r)) same few) is;
}
