use Rattle.rh_ground.specs.Match.{is_operand}
use Rattle.rh_ground.proofs.fixed.fixed_by_operands.Goals as goal

pub returns : goal.returns
returns c =
    c.agreed.ensures (λ binding. is_operand binding c.args.operands.0 c.args.bases.0) (λ binding. is_operand binding c.args.operands.1 c.args.bases.1) c.args.meta
    c.fixed_by_operand.ensures c.fixed_by_operand-2.ensures
