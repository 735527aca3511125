-- Rulings on some of the rules, and the premises of the rules that carry.
use Rattle.std.proofs.Common.{ℕ, zero, suc, ◌≡◌, ◌==◌, Bool, true, false, List, [], ◌∷◌, map, Some, refl, ap, sym, ◌∙◌}
use Rattle.std.specs.List.{flat_map}
use Rattle.std.specs.Prelude.{slice_get}
use Rattle.std.proofs.lemmas.Bool.{and_parts, eqb-true, false≢true}
use Rattle.std.proofs.lemmas.Bool.Decides.{Decides-int_eq}
use Rattle.std.proofs.lemmas.Option.{same_Some}
use Rattle.rh_il.specs.declared.program.Node.{Node}
use Rattle.rh_il.specs.declared.program.Proc.{Proc}
use Rattle.rh_il.specs.declared.program.Slot.{Slot}
use Rattle.rh_rule.specs.declared.rule.Conclusion.TheVariants.{Fact}
use Rattle.rh_rule.specs.declared.rule.FactUse.{FactUse}
use Rattle.rh_rule.specs.declared.rule.Rule.{Rule}
use Rattle.rh_rule.specs.declared.rule.RuleBase.{RuleBase}
use Rattle.rh_rule.specs.declared.rule.RuleBase.TheVariants.{Meta, Num, Wild}
use Rattle.rh_rule.specs.declared.rule.Ruling.{Ruling}
use Rattle.rh_rule.specs.declared.rule.Ruling.TheVariants.{Admitted}
use Rattle.rh_domain.specs.Binding.{Binding, arg_under}
use Rattle.rh_ground.specs.Instance.{fact_under}
use Rattle.rh_ground.specs.Rows.{edges_before, on_edges, premises_at}
use Rattle.rh_ground.proofs.FindLists.{append_nothing}
use Rattle.rh_carry.specs.Carry.{base_eq, bases_eq, carries, concludes_only, is_only, only, ruling_if, use_eq}

-- ---- rulings

admitted_if : (passes : Bool) (ruling : Ruling) → ruling_if passes ruling ≡ Admitted → (passes ≡ true) × (ruling ≡ Admitted)
admitted_if true ruling is = (refl, is)
admitted_if false ruling is = absurd cc

module _ (passes : Rule → Bool) where
  -- a rule that is admitted and passes is admitted among those that pass
  pub into_only : (rules : List Rule) (rulings : List Ruling) (number : ℕ) (rule : Rule) → slice_get rules number ≡ Some rule → slice_get rulings number ≡ Some Admitted → passes rule ≡ true
      → slice_get (only passes rules rulings) number ≡ Some Admitted
  into_only [] rulings number rule read admitted is = absurd cc
  into_only (first ∷ rules) [] number rule read admitted is = absurd cc
  into_only (first ∷ rules) (ruling ∷ rulings) zero rule read admitted is =
      ap (λ b. Some (ruling_if b ruling)) (ap passes (same_Some first rule read) ∙ is) ∙ admitted
  into_only (first ∷ rules) (ruling ∷ rulings) (suc number) rule read admitted is = into_only rules rulings number rule read admitted is

  -- and the other way round
  pub out_of_only : (rules : List Rule) (rulings : List Ruling) (number : ℕ) (rule : Rule) → slice_get rules number ≡ Some rule → slice_get (only passes rules rulings) number ≡ Some Admitted
      → (slice_get rulings number ≡ Some Admitted) × (passes rule ≡ true)
  out_of_only [] rulings number rule read admitted = absurd cc
  out_of_only (first ∷ rules) [] number rule read admitted = absurd cc
  out_of_only (first ∷ rules) (ruling ∷ rulings) zero rule read admitted =
      let by = admitted_if (passes first) ruling (same_Some (ruling_if (passes first) ruling) Admitted admitted) in
      (ap Some by.1, ap passes (sym (same_Some first rule read)) ∙ by.0)
  out_of_only (first ∷ rules) (ruling ∷ rulings) (suc number) rule read admitted = out_of_only rules rulings number rule read admitted

-- ---- uses that are one

base_eq-true : (a b : RuleBase) → base_eq a b ≡ true → a ≡ b
base_eq-true (Meta a) (Meta b) is = ap Meta (eqb-true a b is)
base_eq-true (Num a) (Num b) is = ap Num ((Decides-int_eq a b).0 is)
base_eq-true Wild Wild is = refl
base_eq-true _ _ is = absurd (false≢true is)

bases_eq-true : (xs ys : List RuleBase) → bases_eq xs ys ≡ true → xs ≡ ys
bases_eq-true [] [] is = refl
bases_eq-true [] (y ∷ ys) is = absurd (false≢true is)
bases_eq-true (x ∷ xs) [] is = absurd (false≢true is)
bases_eq-true (x ∷ xs) (y ∷ ys) is = let parts = and_parts (base_eq x y) (bases_eq xs ys) is in λ i. base_eq-true x y parts.0 i ∷ bases_eq-true xs ys parts.1 i

one_use : (a b : FactUse) → use_eq a b ≡ true → (binding : Binding) → fact_under binding a ≡ fact_under binding b
one_use a b is binding =
    let parts = and_parts (a.schema == b.schema) (bases_eq a.args b.args) is in
    λ i. record { schema = eqb-true a.schema b.schema parts.0 i; args = map (arg_under binding) (bases_eq-true a.args b.args parts.1 i) }

-- ---- premises

-- the premises of a rule that carries are what it concludes, on the edges before
module _ (concluded : FactUse) (place : ℕ) (proc : Proc) (binding : Binding) (node : Node) where
  one_premise : (premises : List FactUse) → is_only premises concluded ≡ true
      → flat_map (λ premise. on_edges place (edges_before proc node) (fact_under binding premise)) premises ≡ on_edges place (edges_before proc node) (fact_under binding concluded)
  one_premise [] is = absurd (false≢true is)
  one_premise (premise ∷ []) is =
      append_nothing (on_edges place (edges_before proc node) (fact_under binding premise)) ∙ ap (on_edges place (edges_before proc node)) (one_use premise concluded is binding)
  one_premise (premise ∷ other ∷ others) is = absurd (false≢true is)

  pub carried_premises : (rule : Rule) (slot : Slot) → rule.conclusion ≡ Fact concluded slot → carries rule ≡ true
      → premises_at place proc rule binding node ≡ on_edges place (edges_before proc node) (fact_under binding concluded)
  carried_premises rule slot concludes is = one_premise rule.premises (sym (ap (concludes_only rule.premises) concludes) ∙ is)
