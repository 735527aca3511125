use Rattle.std.proofs.Common.{◌<◌, arith, ◌∙◌, lit<}
use Rattle.rh_rule_source.specs.Grammar.{productions, atom}
use Rattle.rh_rule_parse.proofs.cursor.Cursor.atom.Goals as goal

pub returns-in-0-clause-reads : goal.returns-in-0-clause-reads
unfolding productions
returns-in-0-clause-reads c rest h =
    let s0 = c.choose.ensures.known 0 c.in-0.is atom rest h in
    let s1 = c.skip.ensures.skips _ _ s0.1 (lit< tt) in
    let s2 = c.bracketed_term.ensures.reads _ s1.1 in
    (cc (s0.0, s1.0, s2.0), s2.1)

pub returns-in_default-clause-reads : goal.returns-in_default-clause-reads
unfolding productions
returns-in_default-clause-reads c rest h =
    let high : c.choose.result < 4 = c.choose.ensures.within atom rest h in
    let s0 = c.choose.ensures.known 3 (omega arith) atom rest h in
    let s1 = c.comparison.ensures.reads _ s0.1 in
    (s0.0 ∙ s1.0, s1.1)
