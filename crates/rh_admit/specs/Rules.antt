-- What is told of the rules of a file.
use Rattle.std.specs.List.{AllZip, range_with_len}
use Rattle.std.specs.Prelude.{◌≡◌, ℕ, ◌<◌, ◌∷◌, ◌++◌, ⊤, List, Some, None, Ok, Err, length, map, slice_get}
use Rattle.std.specs.declared.result.Result.{Result}
use Rattle.rh_rule.specs.RuleFiles.{OfRule, Rules}
use Rattle.rh_rule.specs.declared.rule.Rule.{Rule}
use Rattle.rh_rule.specs.declared.schema.Schema.{Schema}
use Rattle.rh_log.specs.declared.log.Admission.{Admission}
use Rattle.rh_log.specs.Admission.{ruling_of}
use Rattle.rh_oblig.specs.declared.obligation.ObligFault.{ObligFault}
use Rattle.rh_oblig.specs.declared.obligation.ObligFault.TheVariants.{TooManyTerms as TooMany, NoMemory as NoRoom}
use Rattle.rh_oblig.specs.Obligation.{excess, obligations_of}
use Rattle.rh_oblig.specs.Ruling.{IsRuling}
use Rattle.rh_admit.specs.declared.all.AdmitFault.{AdmitFault}
use Rattle.rh_admit.specs.declared.all.AdmitFault.TheVariants.{TooManyTerms, NoMemory}
use Rattle.rh_admit.specs.Admission.{IsKept}

-- the ruling is that on the rule, and the admission keeps what the search finds of its obligations, none of
-- which has too many terms
pub record IsTold (schemas : List Schema) (rule : Rule) (admission : Admission) : Type 0 where
  pub ruled : IsRuling schemas rule (ruling_of admission)
  pub kept : IsKept (obligations_of schemas rule) admission
  pub small : excess schemas rule ≡ None

-- the rule with this number is the first with an obligation of too many terms
pub record IsFirstExcess (schemas : List Schema) (rules : List Rule) (number count : ℕ) : Type 0 where
  pub rule : Rule
  pub stands : slice_get rules number ≡ Some rule
  pub large : excess schemas rule ≡ Some count
  pub first : (earlier : ℕ) (before : Rule) → earlier < number → slice_get rules earlier ≡ Some before → excess schemas before ≡ None

-- the fault of a rule, with its number
abbrev pub fault_of : ℕ → ObligFault → AdmitFault
fault_of rule (TooMany count) = TooManyTerms rule count
fault_of rule NoRoom = NoMemory

-- the admission of a rule, or the fault that names it
abbrev pub Answer : Type 0
Answer = Result Admission AdmitFault

-- an answer on the rule with this number: what is told of it, or its fault; where memory ran out nothing is known of it
abbrev pub IsAnswer : List Schema → Rule → ℕ → Answer → Type 0
IsAnswer schemas rule number (Ok admission) = IsTold schemas rule admission
IsAnswer schemas rule number (Err (TooManyTerms named count)) = (named ≡ number) × (excess schemas rule ≡ Some count)
IsAnswer schemas rule number (Err NoMemory) = ⊤

-- one answer on each rule of the file, in their order
abbrev pub AreAnswers : Rules → List Answer → Type 0
AreAnswers file answers =
    AllZip (λ number answer. OfRule file number (λ schemas rule. IsAnswer schemas rule number answer)) (range_with_len 0 (length file.rules)) answers

-- the fault is one of the answers, and all before it are admissions
pub record IsFirstFault (answers : List Answer) (fault : AdmitFault) : Type 0 where
  pub before : List Admission
  pub after : List Answer
  pub parts : answers ≡ map Ok before ++ Err fault ∷ after

-- two lists that are told of the same rules are equal: the rulings, logs and labels are fixed by the file
abbrev pub OneListIsTold : Type 0
OneListIsTold =
    (schemas : List Schema) (rules : List Rule) (one other : List Admission) → AllZip (IsTold schemas) rules one → AllZip (IsTold schemas) rules other
    → one ≡ other
