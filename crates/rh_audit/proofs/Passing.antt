-- Sections that the walk has passed.
use Rattle.std.proofs.Common.{◌≡◌, ℕ, suc, ◌<◌, ◌≤◌, ◌+◌, List, length, Some, refl, sym, subst, ◌∙◌, arith, inl, inr}
use Rattle.std.proofs.lemmas.Bool.{cases_lt}
use Rattle.std.proofs.lemmas.Option.{same_Some, slice_get_within}
use Rattle.std.specs.Prelude.{slice_get}
use Rattle.rh_log_text.specs.declared.logs.RuleLogs.{RuleLogs}
use Rattle.rh_oblig.specs.Obligation.{IsAdmitted}
use Rattle.rh_rule.specs.declared.rule.Rule.{Rule}
use Rattle.rh_rule.specs.RuleFiles.{IsRuleFile, Rules}
use Rattle.rh_audit.specs.Audit.{AreAdmitted}
use Rattle.rh_audit.specs.Faults.{IsAtFault, IsOf, parts_in}
use Rattle.rh_audit.specs.Walk.{IsPassed, IsProved}
use Rattle.rh_audit.proofs.Distinct.{one_rule}
use Rattle.rh_audit.proofs.Locating.{IsFollowing, IsIn, located, at_name, at_log, at_end}

-- the first sections are in order and prove their rules, and the next section has to name a rule from this number on
pub record HasPassed (file : Rules) (sections : List RuleLogs) (end next : ℕ) : Type 0 where
  pub following : (place : ℕ) (section : RuleLogs) → place < end → slice_get sections place ≡ Some section → IsFollowing file sections place section
  pub proved : (place : ℕ) (section : RuleLogs) (number : ℕ) (rule : Rule) → place < end → slice_get sections place ≡ Some section → IsOf file section number rule
      → IsProved (parts_in file rule) section × IsAdmitted file.schemas rule
  pub last : (place : ℕ) (section : RuleLogs) (number : ℕ) (rule : Rule) → suc place ≡ end → slice_get sections place ≡ Some section → IsOf file section number rule → suc number ≡ next
  pub start : end ≡ 0 → next ≡ 0

pub none_passed : (file : Rules) (sections : List RuleLogs) → HasPassed file sections 0 0
none_passed file sections = record {
  following = λ place section below stands. absurd (omega (arith, below));
  proved = λ place section number rule below stands of. absurd (omega (arith, below));
  last = λ place section number rule is stands of. absurd (omega (arith, is));
  start = λ e. refl;
}

-- a section after those that are passed, with the number of its rule
pub follows : (file : Rules) (sections : List RuleLogs) (end next : ℕ) (section : RuleLogs) (number : ℕ) (rule : Rule) → HasPassed file sections end next → IsOf file section number rule → next ≤ number
    → IsFollowing file sections end section
follows file sections end next section number rule passed of after = record {
  number = number;
  rule = rule;
  is_of = of;
  after = λ earlier before first other is stands of_before.
      let last = passed.last earlier before first other (sym is) stands of_before in
      omega (arith, last, after);
}

module _ (file : Rules) (sections : List RuleLogs) (end next : ℕ) (section : RuleLogs) (number : ℕ) (is_file : IsRuleFile file) (passed : HasPassed file sections end next)
    (here : slice_get sections end ≡ Some section) (this : IsPassed file next section number) where
  -- the section at the place is this one
  same_section : (place : ℕ) (other : RuleLogs) → place ≡ end → slice_get sections place ≡ Some other → section ≡ other
  same_section place other is stands = same_Some section other (sym here ∙ subst (λ n. slice_get sections n ≡ Some other) is stands)

  -- and its rule is that
  proves : (other_number : ℕ) (rule : Rule) → IsOf file section other_number rule → (number ≡ other_number) × (IsProved (parts_in file rule) section × IsAdmitted file.schemas rule)
  proves other_number rule of =
      let same = one_rule file section number other_number this.rule rule is_file this.is_of of in
      (same.0, subst (λ (r : Rule). IsProved (parts_in file r) section × IsAdmitted file.schemas r) same.1 (this.proved, this.admitted))

  is_end : (place : ℕ) → place < end + 1 → end ≤ place → place ≡ end
  is_end place below past = omega (arith, below, past)

  following_more : (place : ℕ) (other : RuleLogs) → place < end + 1 → slice_get sections place ≡ Some other → IsFollowing file sections place other
  following_more place other below stands = elim (cases_lt place end) [
    | inl before ↦ passed.following place other before stands
    | inr past ↦
        let is : place ≡ end = is_end place below past in
        subst (λ n. IsFollowing file sections n other) (sym is)
        (subst (λ (s : RuleLogs). IsFollowing file sections end s) (same_section place other is stands) (follows file sections end next section number this.rule passed this.is_of this.after))
  ]

  proved_more : (place : ℕ) (other : RuleLogs) (other_number : ℕ) (rule : Rule) → place < end + 1 → slice_get sections place ≡ Some other → IsOf file other other_number rule
      → IsProved (parts_in file rule) other × IsAdmitted file.schemas rule
  proved_more place other other_number rule below stands of = elim (cases_lt place end) [
    | inl before ↦ passed.proved place other other_number rule before stands of
    | inr past ↦
        let same : section ≡ other = same_section place other (is_end place below past) stands in
        subst (λ (s : RuleLogs). IsProved (parts_in file rule) s × IsAdmitted file.schemas rule) same
        (proves other_number rule (subst (λ (s : RuleLogs). IsOf file s other_number rule) (sym same) of)).1
  ]

  last_more : (place : ℕ) (other : RuleLogs) (other_number : ℕ) (rule : Rule) → suc place ≡ end + 1 → slice_get sections place ≡ Some other → IsOf file other other_number rule → suc other_number ≡ number + 1
  last_more place other other_number rule is stands of =
      let same : section ≡ other = same_section place other (omega (arith, is)) stands in
      let numbers = (proves other_number rule (subst (λ (s : RuleLogs). IsOf file s other_number rule) (sym same) of)).0 in
      omega (arith, numbers)

  pub passed_more : HasPassed file sections (end + 1) (number + 1)
  passed_more = record {
    following = following_more;
    proved = proved_more;
    last = last_more;
    start = λ e. absurd (omega (arith, e));
  }

module _ (file : Rules) (sections : List RuleLogs) (end next : ℕ) (passed : HasPassed file sections end next) where
  -- no section that is passed is at fault
  pub no_fault_in : (place : ℕ) (section : RuleLogs) (line : ℕ) → place < end → slice_get sections place ≡ Some section → ¬ (IsIn file sections place section line)
  no_fault_in place section line below stands (at_name not_following is) = not_following (passed.following place section below stands)
  no_fault_in place section line below stands (at_log k log at no_proof is) =
      let follows = passed.following place section below stands in
      let proved = (passed.proved place section follows.number follows.rule below stands follows.is_of).0 in
      no_proof follows.number follows.rule follows.is_of (proved.each k log (slice_get_within section.logs k log at) at)
  no_fault_in place section line below stands (at_end few is) =
      let follows = passed.following place section below stands in
      let proved = (passed.proved place section follows.number follows.rule below stands follows.is_of).0 in
      omega (arith, few follows.number follows.rule follows.is_of, proved.all)

  -- where all are passed
  pub faultless : IsRuleFile file → length sections ≤ end → (line : ℕ) → ¬ (IsAtFault file sections line)
  faultless is_file all line at_fault =
      let there = located file sections line is_file at_fault in
      let within = slice_get_within sections there.place there.section there.stands in
      no_fault_in there.place there.section line (omega (arith, all, within)) there.stands there.fault

  pub admitted : length sections ≤ end → AreAdmitted file sections
  admitted all place section stands number rule of =
      let within = slice_get_within sections place section stands in
      (passed.proved place section number rule (omega (arith, all, within)) stands of).1
