use Rattle.std.proofs.Common.{◌<◌, arith}
use Rattle.rh_rule_source.specs.Grammar.{productions, operation}
use Rattle.rh_rule_parse.proofs.cursor.Cursor.operation.Goals as goal

pub returns-in_default-clause-reads : goal.returns-in_default-clause-reads
unfolding productions
returns-in_default-clause-reads c rest h =
    let high : c.choose.result < 2 = c.choose.ensures.within operation rest h in
    let s0 = c.choose.ensures.known 1 (omega arith) operation rest h in
    (s0.0, s0.1)
