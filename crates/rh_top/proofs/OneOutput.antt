-- A rule file and a program have one output.
use Rattle.std.proofs.Common.{ℕ, ◌≡◌, Bool, true, false, List, [], ◌∷◌, refl, sym, subst, ◌∙◌}
use Rattle.std.specs.List.{AllZip}
use Rattle.std.specs.Prelude.{IsTrue}
use Rattle.rh_admit.proofs.Fixed.{one_ruling}
use Rattle.rh_il.specs.declared.program.Proc.{Proc}
use Rattle.rh_rule.specs.declared.rule.Rule.{Rule}
use Rattle.rh_rule.specs.declared.rule.Ruling.{Ruling}
use Rattle.rh_rule.specs.declared.schema.Schema.{Schema}
use Rattle.rh_rule.specs.RuleFiles.{Rules}
use Rattle.rh_domain.specs.declared.fact.FactAt.{FactAt}
use Rattle.rh_domain.specs.Facts.{Known}
use Rattle.rh_ground.specs.Rows.{IsGreatest}
use Rattle.rh_oblig.specs.Ruling.{IsRuling}
use Rattle.rh_report.specs.Counts.{counts_text}
use Rattle.rh_report.specs.Output.{IsOutput, opt_text}
use Rattle.rh_top.specs.One.{HasOneOutput}
use Rattle.rh_top.specs.Result.{IsCounted}

one_rulings : (schemas : List Schema) (rules : List Rule) (one other : List Ruling) → AllZip (IsRuling schemas) rules one → AllZip (IsRuling schemas) rules other → one ≡ other
one_rulings schemas [] [] [] first second = refl
one_rulings schemas [] [] (b ∷ other) first second = absurd second
one_rulings schemas [] (a ∷ one) other first second = absurd first
one_rulings schemas (rule ∷ rules) [] other first second = absurd first
one_rulings schemas (rule ∷ rules) (a ∷ one) [] first second = absurd second
one_rulings schemas (rule ∷ rules) (a ∷ one) (b ∷ other) first second =
    let same : a ≡ b = one_ruling schemas rule a b first.0 second.0 in
    let rest : one ≡ other = one_rulings schemas rules one other first.1 second.1 in
    λ i. same i ∷ rest i

same_test : (a b : Bool) → (IsTrue a → IsTrue b) → (IsTrue b → IsTrue a) → a ≡ b
same_test true true leads back = refl
same_test true false leads back = sym (leads refl)
same_test false true leads back = back refl
same_test false false leads back = refl

one_set : (rules : List Rule) (rulings : List Ruling) (procs : List Proc) (one other : Known) → IsGreatest rules rulings procs one → IsGreatest rules rulings procs other → one ≡ other
one_set rules rulings procs one other first second =
    let same : (fact : FactAt) → one fact ≡ other fact = λ fact. same_test (one fact) (other fact) (λ is. (second fact).1 ((first fact).0 is)) (λ is. (first fact).1 ((second fact).0 is)) in
    λ i fact. same fact i

one_text : (file : Rules) (procs : List Proc) (text other : List ℕ) → IsOutput file procs text → IsOutput file procs other → text ≡ other
one_text file procs text other first second =
    let rulings : first.rulings ≡ second.rulings = one_rulings file.schemas file.rules first.rulings second.rulings first.ruled second.ruled in
    let moved : IsGreatest file.rules second.rulings procs first.known = subst (λ r. IsGreatest file.rules r procs first.known) rulings first.greatest in
    let known : first.known ≡ second.known = one_set file.rules second.rulings procs first.known second.known moved second.greatest in
    first.text_is ∙ (λ i. opt_text file (rulings i) (known i) procs) ∙ sym second.text_is

one_count : (file : Rules) (procs : List Proc) (text other : List ℕ) → IsCounted file procs text → IsCounted file procs other → text ≡ other
one_count file procs text other first second =
    let rulings : first.rulings ≡ second.rulings = one_rulings file.schemas file.rules first.rulings second.rulings first.ruled second.ruled in
    let moved : IsGreatest file.rules second.rulings procs first.known = subst (λ r. IsGreatest file.rules r procs first.known) rulings first.greatest in
    let known : first.known ≡ second.known = one_set file.rules second.rulings procs first.known second.known moved second.greatest in
    first.text_is ∙ (λ i. counts_text file (rulings i) (known i) procs) ∙ sym second.text_is

pub one_output : (file : Rules) (procs : List Proc) → HasOneOutput file procs
one_output file procs = record {
  opt = λ text other first second. one_text file procs text other first.output second.output;
  gen = one_count file procs;
}
