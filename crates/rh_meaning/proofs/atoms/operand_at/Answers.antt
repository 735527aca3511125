use Rattle.std.proofs.Common.{◌≡◌, ◌<◌, true, length, subst}
use Rattle.std.proofs.lemmas.Bool.{ltb-true}
use Rattle.rh_rule.specs.Numbers.{base_is_below}
use Rattle.rh_meaning.proofs.Steps.{ok_with, operand_put}
use Rattle.rh_meaning.proofs.atoms.operand_at.Goals as goal

pub returns-in-Param-clause-put : goal.returns-in-Param-clause-put
returns-in-Param-clause-put c =
    let below : c.in-Param.param < length c.args.places.now = ltb-true _ _ (subst (λ b. base_is_below (length c.args.places.now) b ≡ true) c.in-Param.is c.requires.below) in
    ok_with _ _ c.arg_place.result
    (λ place put params fit tree stands. operand_put c.args.terms.now c.arg_place.new.terms params c.args.places.now c.args.args.now c.in-Param.param tree place _ _ c.args.base
    c.kind_of.ensures c.arg_at.ensures c.in-Param.is below fit (put tree stands))
    c.arg_place.ensures.put
