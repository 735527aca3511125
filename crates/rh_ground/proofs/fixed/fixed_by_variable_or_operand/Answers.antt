use Rattle.rh_ground.specs.Match.{is_operand, is_variable}
use Rattle.rh_ground.proofs.fixed.fixed_by_variable_or_operand.Goals as goal

pub returns : goal.returns
returns c =
    c.agreed.ensures (λ binding. is_variable binding c.args.name c.args.variable) (λ binding. is_operand binding c.args.operand c.args.base) c.args.meta
    c.fixed_by_variable.ensures c.fixed_by_operand.ensures
