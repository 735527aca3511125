use Rattle.std.proofs.Common.{◌<◌, arith, ◌∙◌, lit<}
use Rattle.rh_rule_source.specs.Grammar.{productions, relation}
use Rattle.rh_rule_parse.proofs.cursor.Cursor.relation.Goals as goal

pub returns-in_default-clause-reads : goal.returns-in_default-clause-reads
unfolding productions
returns-in_default-clause-reads c rest h =
    let high : c.choose-number.result < 2 = c.choose-number.ensures.within relation rest h in
    let s0 = c.choose-number.ensures.known 1 (omega arith) relation rest h in
    let s1 = c.skip.ensures.skips _ _ s0.1 (lit< tt) in
    (s0.0 ∙ s1.0, s1.1)
