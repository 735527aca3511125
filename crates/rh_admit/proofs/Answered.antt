-- From the answers on the rules to what is told of them.
use Rattle.std.proofs.Common.{◌≡◌, ℕ, zero, suc, ◌<◌, ◌+◌, List, [], ◌∷◌, ◌++◌, map, length, Option, Some, None, Ok, Err, arith, refl, ap, sym, subst, ◌∙◌}
use Rattle.std.specs.Prelude.{IfSome, slice_get, ⊤}
use Rattle.std.specs.List.{AllZip, range_with_len}
use Rattle.std.proofs.lemmas.Option.{same_Some}
use Rattle.rh_log.specs.declared.log.Admission.{Admission}
use Rattle.rh_oblig.specs.Obligation.{excess}
use Rattle.rh_oblig.specs.declared.obligation.ObligFault.{ObligFault}
use Rattle.rh_oblig.specs.declared.obligation.ObligFault.TheVariants.{TooManyTerms as TooMany, NoMemory as NoRoom}
use Rattle.rh_rule.specs.RuleFiles.{OfRule, Rules}
use Rattle.rh_rule.specs.declared.rule.Rule.{Rule}
use Rattle.rh_rule.specs.declared.schema.Schema.{Schema}
use Rattle.rh_admit.specs.declared.all.AdmitFault.TheVariants.{TooManyTerms}
use Rattle.rh_admit.specs.Rules.{Answer, AreAnswers, IsAnswer, IsFirstExcess, IsFirstFault, IsTold, fault_of}

-- what is known of a fault, with the number of its rule
answer_found : (schemas : List Schema) (found : Option Rule) (number : ℕ) (fault : ObligFault)
    → ((count : ℕ) → fault ≡ TooMany count → IfSome found (λ rule. excess schemas rule ≡ Some count))
    → IfSome found (λ rule. IsAnswer schemas rule number (Err (fault_of number fault)))
answer_found schemas None number fault large = tt
answer_found schemas (Some rule) number (TooMany count) large = (refl, large count refl)
answer_found schemas (Some rule) number NoRoom large = tt

pub fault_answers : (file : Rules) (number : ℕ) (fault : ObligFault)
    → ((count : ℕ) → fault ≡ TooMany count → OfRule file number (λ schemas rule. excess schemas rule ≡ Some count))
    → OfRule file number (λ schemas rule. IsAnswer schemas rule number (Err (fault_of number fault)))
fault_answers file number fault large = answer_found file.schemas (slice_get file.rules number) number fault large

module _ (schemas : List Schema) where
  -- an answer on each of the rules, which are numbered from a start
  abbrev AreNumbered : List Rule → ℕ → List Answer → Type 0
  AreNumbered [] start [] = ⊤
  AreNumbered [] start (answer ∷ answers) = ⊥
  AreNumbered (rule ∷ rules) start [] = ⊥
  AreNumbered (rule ∷ rules) start (answer ∷ answers) = IsAnswer schemas rule start answer × AreNumbered rules (start + 1) answers

  numbered_from : (read : ℕ → Option Rule) (rules : List Rule) (start : ℕ) (answers : List Answer) → ((k : ℕ) → read (start + k) ≡ slice_get rules k)
      → AllZip (λ number answer. IfSome (read number) (λ rule. IsAnswer schemas rule number answer)) (range_with_len start (length rules)) answers
      → AreNumbered rules start answers
  numbered_from read [] start [] same all = tt
  numbered_from read [] start (answer ∷ answers) same all = absurd all
  numbered_from read (rule ∷ rules) start [] same all = absurd all
  numbered_from read (rule ∷ rules) start (answer ∷ answers) same all =
      let first : start ≡ start + 0 = omega arith in
      let here : read start ≡ Some rule = ap read first ∙ same 0 in (
        subst (λ (found : Option Rule). IfSome found (λ rule. IsAnswer schemas rule start answer)) here all.0,
        numbered_from read rules (start + 1) answers (λ k. let next : start + 1 + k ≡ start + suc k = omega arith in ap read next ∙ same (suc k)) all.1,
      )

  told_from : (rules : List Rule) (start : ℕ) (made : List Admission) → AreNumbered rules start (map Ok made) → AllZip (IsTold schemas) rules made
  told_from [] start [] all = tt
  told_from [] start (admission ∷ made) all = absurd all
  told_from (rule ∷ rules) start [] all = absurd all
  told_from (rule ∷ rules) start (admission ∷ made) all = (all.0, told_from rules (start + 1) made all.1)

  excess_from : (rules : List Rule) (start : ℕ) (before : List Admission) (after : List Answer) (named count : ℕ)
      → AreNumbered rules start (map Ok before ++ Err (TooManyTerms named count) ∷ after)
      → (named ≡ start + length before) × IsFirstExcess schemas rules (length before) count
  excess_from [] start [] after named count all = absurd all
  excess_from [] start (admission ∷ before) after named count all = absurd all
  excess_from (rule ∷ rules) start [] after named count all =
      (omega (arith, all.0.0), record { rule = rule; stands = refl; large = all.0.1; first = λ earlier other below e. absurd (omega (arith, below)) })
  excess_from (rule ∷ rules) start (admission ∷ before) after named count all =
      let rest = excess_from rules (start + 1) before after named count all.1 in
      (omega (arith, rest.0), record { rule = rest.1.rule; stands = rest.1.stands; large = rest.1.large; first = small rest.1 all.0 })
    where
      small : IsFirstExcess schemas rules (length before) count → IsTold schemas rule admission → (earlier : ℕ) (other : Rule) → earlier < suc (length before)
          → slice_get (rule ∷ rules) earlier ≡ Some other → excess schemas other ≡ None
      small rest told zero other below e = ap (excess schemas) (sym (same_Some rule other e)) ∙ told.small
      small rest told (suc earlier) other below e = rest.first earlier other (omega (arith, below)) e

numbered : (file : Rules) (answers : List Answer) → AreAnswers file answers → AreNumbered file.schemas file.rules 0 answers
numbered file answers all = numbered_from file.schemas (slice_get file.rules) file.rules 0 answers (λ k. let same : 0 + k ≡ k = omega arith in ap (slice_get file.rules) same) all

pub told_all : (file : Rules) (answers : List Answer) (made : List Admission) → AreAnswers file answers → answers ≡ map Ok made → AllZip (IsTold file.schemas) file.rules made
told_all file answers made all are =
    told_from file.schemas file.rules 0 made (subst (AreNumbered file.schemas file.rules 0) are (numbered file answers all))

pub excess_first : (file : Rules) (answers : List Answer) (named count : ℕ) → AreAnswers file answers → IsFirstFault answers (TooManyTerms named count)
    → IsFirstExcess file.schemas file.rules named count
excess_first file answers named count all fault =
    let found = excess_from file.schemas file.rules 0 fault.before fault.after named count
    (subst (AreNumbered file.schemas file.rules 0) fault.parts (numbered file answers all)) in
    let same : length fault.before ≡ named = omega (arith, found.0) in
    subst (λ (n : ℕ). IsFirstExcess file.schemas file.rules n count) same found.1
