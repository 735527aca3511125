-- What is told of rules is fixed.
use Rattle.std.proofs.Common.{◌≡◌, ℕ, ◌<◌, List, [], ◌∷◌, length, get_or, refl, ap, sym, subst, ◌∙◌, inl, inr}
use Rattle.std.specs.Prelude.{slice_get}
use Rattle.std.specs.List.{AllZip}
use Rattle.std.proofs.lemmas.Bool.{cases_order}
use Rattle.std.proofs.lemmas.Option.{same_Some, slice_get-get_or, slice_get_within}
use Rattle.rh_log.specs.declared.log.Admission.{Admission}
use Rattle.rh_log.specs.declared.log.Admission.TheVariants.{Admitted, Refused}
use Rattle.rh_log.specs.declared.log.Log.{Log}
use Rattle.rh_rule.specs.declared.rule.Rule.{Rule}
use Rattle.rh_rule.specs.declared.rule.Ruling.{Ruling}
use Rattle.rh_rule.specs.declared.rule.Ruling.TheVariants.{Admitted as IsAdmittedRule, Refused as IsRefusedRule}
use Rattle.rh_rule.specs.declared.schema.Schema.{Schema}
use Rattle.rh_meaning.specs.Literal.{TreeLit}
use Rattle.rh_goals.specs.Goals.{goals}
use Rattle.rh_oblig.specs.Obligation.{IsAdmitted, IsShown, obligations_of}
use Rattle.rh_oblig.specs.Ruling.{IsFirstOpen, IsRuling}
use Rattle.rh_refuter.specs.declared.search.Verdict.TheVariants.{Closed, Open}
use Rattle.rh_refuter.proofs.Fixed.{one_found}
use Rattle.rh_admit.specs.Admission.{Finds, Part}
use Rattle.rh_admit.specs.Rules.{IsTold, OneListIsTold}

closed_is : (log other : Log) → Closed log ≡ Closed other → log ≡ other
closed_is log other e = cc

open_is : (labels others : List ℕ) → Open labels ≡ Open others → labels ≡ others
open_is labels others e = cc

logs_are : (parts : List Part) (logs others : List Log) → AllZip (λ part log. Finds part (Closed log)) parts logs → AllZip (λ part log. Finds part (Closed log)) parts others → logs ≡ others
logs_are [] [] [] one two = refl
logs_are [] [] (other ∷ others) one two = absurd two
logs_are [] (log ∷ logs) others one two = absurd one
logs_are (part ∷ parts) [] others one two = absurd one
logs_are (part ∷ parts) (log ∷ logs) [] one two = absurd two
logs_are (part ∷ parts) (log ∷ logs) (other ∷ others) one two =
    let same : log ≡ other = closed_is log other (one_found part.0 part.1 (Closed log) (Closed other) one.0 two.0) in
    let rest : logs ≡ others = logs_are parts logs others one.1 two.1 in
    λ i. same i ∷ rest i

module _ (schemas : List Schema) (rule : Rule) where
  -- what is shown has no open partition
  never : (goal : TreeLit) (number : ℕ) (first : IsFirstOpen schemas rule number) → goal ≡ first.goal → IsShown schemas rule goal → ⊥
  never goal number first same shown = subst (IsShown schemas rule) same shown first.is_open.0 first.is_open.1

  not_both : (number : ℕ) → IsAdmitted schemas rule → IsFirstOpen schemas rule number → ⊥
  not_both number all first =
      let within : number < length (goals schemas rule) = slice_get_within (goals schemas rule) number first.goal first.stands in
      let here : get_or (goals schemas rule) number first.goal ≡ first.goal =
      same_Some _ _ (sym (slice_get-get_or (goals schemas rule) number first.goal within) ∙ first.stands) in
      never (get_or (goals schemas rule) number first.goal) number first here (all number first.goal within)

  one_first : (number other : ℕ) → IsFirstOpen schemas rule number → IsFirstOpen schemas rule other → number ≡ other
  one_first number other one two = elim (cases_order number other) [
    | inl same ↦ same
    | inr which ↦ elim which [
      | inl before ↦ absurd (never one.goal number one refl (two.first number one.goal before one.stands))
      | inr after ↦ absurd (never two.goal other two refl (one.first other two.goal after two.stands))
    ]
  ]

  -- a rule has one ruling
  pub one_ruling : (one other : Ruling) → IsRuling schemas rule one → IsRuling schemas rule other → one ≡ other
  one_ruling IsAdmittedRule IsAdmittedRule one two = refl
  one_ruling IsAdmittedRule (IsRefusedRule number) one two = absurd (not_both number one two)
  one_ruling (IsRefusedRule number) IsAdmittedRule one two = absurd (not_both number two one)
  one_ruling (IsRefusedRule number) (IsRefusedRule other) one two = ap IsRefusedRule (one_first number other one two)

  one_told : (one other : Admission) → IsTold schemas rule one → IsTold schemas rule other → one ≡ other
  one_told (Admitted logs) (Admitted others) one two = ap (λ (all : List Log). Admitted all) (logs_are (obligations_of schemas rule) logs others one.kept two.kept)
  one_told (Admitted logs) (Refused number labels) one two = absurd (not_both number one.ruled two.ruled)
  one_told (Refused number labels) (Admitted logs) one two = absurd (not_both number two.ruled one.ruled)
  one_told (Refused number labels) (Refused other others) one two =
      let same : number ≡ other = one_first number other one.ruled two.ruled in
      let part : one.kept.0 ≡ two.kept.0 = same_Some _ _ (sym one.kept.1 ∙ ap (slice_get (obligations_of schemas rule)) same ∙ two.kept.1) in
      let found : labels ≡ others = open_is labels others
      (one_found two.kept.0.0 two.kept.0.1 (Open labels) (Open others) (subst (λ (p : Part). Finds p (Open labels)) part one.kept.2) two.kept.2) in
      λ i. Refused (same i) (found i)

pub one_list : OneListIsTold
one_list schemas [] [] [] one two = refl
one_list schemas [] [] (b ∷ others) one two = absurd two
one_list schemas [] (a ∷ admissions) others one two = absurd one
one_list schemas (rule ∷ rules) [] others one two = absurd one
one_list schemas (rule ∷ rules) (a ∷ admissions) [] one two = absurd two
one_list schemas (rule ∷ rules) (a ∷ admissions) (b ∷ others) one two =
    let same : a ≡ b = one_told schemas rule a b one.0 two.0 in
    let rest : admissions ≡ others = one_list schemas rules admissions others one.1 two.1 in
    λ i. same i ∷ rest i
