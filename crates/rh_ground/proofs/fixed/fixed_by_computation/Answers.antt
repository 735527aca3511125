use Rattle.std.proofs.Common.{◌&&◌}
use Rattle.rh_ground.specs.Match.{is_operand, is_variable}
use Rattle.rh_ground.proofs.fixed.fixed_by_computation.Goals as goal

pub returns : goal.returns
returns c =
    c.agreed.ensures (λ binding. is_variable binding c.args.name c.args.variable) (λ binding. is_operand binding c.args.operands.0 c.args.bases.0 && is_operand binding c.args.operands.1 c.args.bases.1) c.args.meta
    c.fixed_by_variable.ensures c.fixed_by_operands.ensures
