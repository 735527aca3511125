-- Logs that prove the obligations of a rule.
use Rattle.std.proofs.Common.{◌≡◌, ◌↔◌, ℕ, ◌<◌, ◌≤◌, ◌+◌, Bool, List, [], ◌∷◌, length, get_or, Option, None, Some, Result, Ok, Err, refl, ap, sym, subst, ◌∙◌, arith, inl, inr}
use Rattle.std.proofs.lemmas.Bool.{cases_lt}
use Rattle.std.proofs.lemmas.Option.{none-some, same_Some, slice_get-get_or, slice_get-map, slice_get_within}
use Rattle.std.specs.Prelude.{IfSome, IsTrue, OnOk, slice_get}
use Rattle.std.specs.Option.{option_map}
use Rattle.std.specs.Result.{IfErr, IsErrAnd}
use Rattle.rh_admit.specs.Admission.{IsShut, Part}
use Rattle.rh_list.specs.Each.{Each, EachBefore}
use Rattle.rh_list.proofs.AtPlace.{read_at}
use Rattle.rh_log_text.specs.declared.logs.PlacedLog.{PlacedLog}
use Rattle.rh_log_text.specs.declared.logs.RuleLogs.{RuleLogs}
use Rattle.rh_meaning.specs.Literal.{TreeLit}
use Rattle.rh_oblig.specs.declared.obligation.ObligFault.{ObligFault}
use Rattle.rh_oblig.specs.declared.obligation.ObligFault.TheVariants.{TooManyTerms as TooMany, NoMemory as NoRoom}
use Rattle.rh_goals.specs.Goals.{goals}
use Rattle.rh_oblig.specs.Obligation.{IsAdmitted, excess, obligations_of, parts_of}
use Rattle.rh_oblig.proofs.Each.{part_for}
use Rattle.rh_rule.specs.declared.rule.Rule.{Rule}
use Rattle.rh_rule.specs.declared.schema.Schema.{Schema}
use Rattle.rh_rule.specs.RuleFiles.{OfRule, Rules}
use Rattle.rh_term.specs.declared.obligation.Obligation.{Obligation}
use Rattle.rh_audit.specs.Audit.{HaveFewTerms}
use Rattle.rh_audit.specs.Faults.{Closes, IsOf, parts_in}
use Rattle.rh_audit.specs.declared.fault.AuditFault.{AuditFault}
use Rattle.rh_audit.specs.declared.fault.AuditFault.TheVariants.{BadLog, TooManyTerms, NoMemory}
use Rattle.rh_audit.specs.Walk.{AreProofsBefore, BreaksWith, ExceedsWith, IsProof, IsProved, StopsWith, at_logs, of_rule}

-- ---- one log

pub is_proof_iff : (parts : List Part) (number : ℕ) (log : PlacedLog) (part : Part) (closes : Bool) → log.number ≡ number → slice_get parts number ≡ Some part → (IsTrue closes ↔ Closes part log.log)
    → IsTrue closes ↔ IsProof parts number log
is_proof_iff parts number log part closes numbered stands iff = (
  (λ t. record { numbered = numbered; part = part; stands = stands; closed = iff.0 t }),
  (λ proof. iff.1 (subst (λ (p : Part). Closes p log.log) (same_Some proof.part part (sym proof.stands ∙ stands)) proof.closed)),
)

pub shut_there : (parts : List Part) (number : ℕ) (part other : Part) → slice_get parts number ≡ Some part → IsShut part → slice_get parts number ≡ Some other → IsShut other
shut_there parts number part other stands shut read = subst IsShut (same_Some part other (sym stands ∙ read)) shut

-- ---- the logs of a section

pub each_more : {X : Type 0} (P : ℕ → X → Type 0) (xs : List X) (n : ℕ) → ((k : ℕ) (x : X) → k < n → slice_get xs k ≡ Some x → P k x) → ((x : X) → slice_get xs n ≡ Some x → P n x)
    → (k : ℕ) (x : X) → k < n + 1 → slice_get xs k ≡ Some x → P k x
each_more P xs n before here k x below read = elim (cases_lt k n) [
  | inl earlier ↦ before k x earlier read
  | inr past ↦
      let is : n ≡ k = omega (arith, below, past) in
      subst (λ m. P m x) is (here x (subst (λ m. slice_get xs m ≡ Some x) (sym is) read))
]

pub proved_all : (parts : List Part) (section : RuleLogs) (n : ℕ) → AreProofsBefore parts section.logs n → length section.logs ≤ n → length parts ≤ length section.logs → IsProved parts section
proved_all parts section n proofs all enough = record {
  each = λ number log below stands. proofs number log (omega (arith, below, all)) stands;
  all = enough;
}

pub shut_all : (parts : List Part) (n : ℕ) → EachBefore IsShut parts n → length parts ≤ n → Each IsShut parts
shut_all parts n shut all number part stands =
    let within = slice_get_within parts number part stands in shut number part (omega (arith, all, within)) stands

pub parts_long : (obligations : List Obligation) → length (parts_of obligations) ≡ length obligations
parts_long [] = refl
parts_long (obligation ∷ obligations) = omega (arith, parts_long obligations)

-- ---- the obligations of a rule

admitted_by : (schemas : List Schema) (rule : Rule) → Each IsShut (obligations_of schemas rule) → IsAdmitted schemas rule
admitted_by schemas rule shut number d within =
    shut number (part_for schemas rule (get_or (goals schemas rule) number d))
    (slice_get-map (part_for schemas rule) (goals schemas rule) number
    ∙ ap (λ (o : Option TreeLit). option_map (part_for schemas rule) o) (slice_get-get_or (goals schemas rule) number d within))

pub of_proved : (schemas : List Schema) (there : Option Rule) (parts : List Part) (section : RuleLogs) → IfSome there (λ rule. parts ≡ obligations_of schemas rule) → IsProved parts section
    → Each IsShut parts → IfSome there (λ rule. IsProved (obligations_of schemas rule) section × IsAdmitted schemas rule)
of_proved schemas None parts section made proved shut = tt
of_proved schemas (Some rule) parts section made proved shut = (
  subst (λ (all : List Part). IsProved all section) made proved,
  admitted_by schemas rule (subst (λ (all : List Part). Each IsShut all) made shut),
)

pub on_both : {T E A B C : Type 0} (r : Result T E) → (A → B → C) → OnOk r A → OnOk r B → OnOk r C
on_both (Ok value) f a b = f a b
on_both (Err fault) f a b = tt

-- what an error is known to be, one that is passed on is
pub passed_on : {T E : Type 0} (P : E → Type 0) (result : Result T E) (given : E) → IsErrAnd result (λ fault. fault ≡ given) → P given → IfErr result P
passed_on P (Ok value) given same known = tt
passed_on P (Err fault) given same known = subst P (sym same) known

-- where the logs of a section do not prove its rule, the walk stops
pub stops_with : (file : Rules) (next : ℕ) (section : RuleLogs) (number : ℕ) (rule : Rule) (fault : AuditFault) → IsOf file section number rule → next ≤ number
    → BreaksWith (parts_in file rule) section fault → StopsWith file next section fault
stops_with file next section number rule (BadLog line) of after breaks = at_logs number rule of after breaks
stops_with file next section number rule (TooManyTerms large count) of after breaks = breaks
stops_with file next section number rule NoMemory of after breaks = tt

-- ---- the terms of rules

-- what a clause says of a rule of the file
pub at_rule : (file : Rules) (number : ℕ) (rule : Rule) (P : List Schema → Rule → Type 0) → slice_get file.rules number ≡ Some rule → OfRule file number P → P file.schemas rule
at_rule file number rule P stands told = subst (λ (there : Option Rule). IfSome there (P file.schemas)) stands told

pub never_large : (file : Rules) (number count : ℕ) → number < length file.rules → HaveFewTerms file → OfRule file number (λ schemas rule. excess schemas rule ≡ Some count) → ⊥
never_large file number count within few large =
    let here = read_at file.rules number within in
    none-some count (sym (few number here.0 here.1) ∙ at_rule file number here.0 (λ schemas rule. excess schemas rule ≡ Some count) here.1 large)

pub exceeds : (file : Rules) (number : ℕ) (fault : ObligFault) → number < length file.rules → EachBefore (λ rule. excess file.schemas rule ≡ None) file.rules number
    → ((count : ℕ) → fault ≡ TooMany count → OfRule file number (λ schemas rule. excess schemas rule ≡ Some count)) → ExceedsWith file (of_rule number fault)
exceeds file number NoRoom within few large = tt
exceeds file number (TooMany count) within few large =
    let here = read_at file.rules number within in
    record { rule = here.0; stands = here.1; large = at_rule file number here.0 (λ schemas rule. excess schemas rule ≡ Some count) here.1 (large count refl); first = few }

-- where no rule has too many terms, the fault is out of memory
pub none_exceeds : (file : Rules) (fault : AuditFault) → ExceedsWith file fault → HaveFewTerms file → fault ≡ NoMemory
none_exceeds file (BadLog line) exceeds few = absurd exceeds
none_exceeds file (TooManyTerms number count) exceeds few = absurd (none-some count (sym (few number exceeds.rule exceeds.stands) ∙ exceeds.large))
none_exceeds file NoMemory exceeds few = refl
