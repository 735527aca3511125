use Rattle.std.proofs.Common.{◌<◌, arith, ◌∙◌}
use Rattle.rh_rule_source.specs.Grammar.{productions, mbase}
use Rattle.rh_rule_parse.proofs.cursor.Cursor.base.Goals as goal

pub returns-in_default-clause-reads : goal.returns-in_default-clause-reads
unfolding productions
returns-in_default-clause-reads c rest h =
    let high : c.choose.result < 2 = c.choose.ensures.within mbase rest h in
    let s0 = c.choose.ensures.known 1 (omega arith) mbase rest h in
    let s1 = c.num.ensures.reads _ s0.1 in
    (s0.0 ∙ s1.0, s1.1)
