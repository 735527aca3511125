use Rattle.std.proofs.Common.{arith, lit<, ◌<◌, ◌∙◌}
use Rattle.rh_il_source.specs.Grammar.{productions, operator}
use Rattle.rh_il_source.proofs.statement.read_op.Goals as goal

pub returns-in_default-clause-reads : goal.returns-in_default-clause-reads
unfolding productions
returns-in_default-clause-reads c rest h =
    let high : c.choose-number.result < 5 = c.choose-number.ensures.within productions operator rest h in
    let s0 = c.choose-number.ensures.known 4 (omega arith) productions operator rest h in
    let s1 = c.skip.ensures.skips _ _ s0.1 (lit< tt) in
    (s0.0 ∙ s1.0, s1.1)
