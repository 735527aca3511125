use Rattle.std.proofs.Common.{◌≡◌, List, Option, Some, ap, map, sym, ◌∙◌, subst}
use Rattle.std.specs.Prelude.{slice_get, IfSome}
use Rattle.rh_rule.specs.declared.rule.Arg.{Arg}
use Rattle.rh_rule.specs.declared.rule.RuleBase.{RuleBase}
use Rattle.rh_rule.specs.declared.rule.RuleBase.TheVariants.{Meta}
use Rattle.rh_domain.specs.Binding.{arg_under}
use Rattle.rh_ground.specs.Fixed.{Fixes}
use Rattle.rh_ground.specs.SameFact.{args_eq}
use Rattle.rh_ground.proofs.SameFacts.{fixed_at_place}
use Rattle.rh_ground.proofs.fixed.fixed_by_fact.Goals as goal

pub returns : goal.returns
returns c =
    let bases = c.args.fact.now.args in
    let place = c.in_ok-place_of.field-0 in
    let there : slice_get bases place ≡ Some (Meta c.args.meta) = ap (λ (bases : List RuleBase). slice_get bases place) (sym c.as_slice.ensures.value) ∙ c.in_ok-place_of.ensures in
    subst (λ (read : Option Arg). IfSome read (Fixes (λ binding. args_eq (map (arg_under binding) bases) c.args.args.now) c.args.meta)) (sym c.arg_at.ensures)
    (fixed_at_place bases c.args.args.now c.args.meta place there)
