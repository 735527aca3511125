use Rattle.rh_ground.specs.Match.{is_variable}
use Rattle.rh_ground.proofs.fixed.fixed_by_variables.Goals as goal

pub returns : goal.returns
returns c =
    c.agreed.ensures (λ binding. is_variable binding c.args.names.0 c.args.variables.0) (λ binding. is_variable binding c.args.names.1 c.args.variables.1) c.args.meta
    c.fixed_by_variable.ensures c.fixed_by_variable-2.ensures
