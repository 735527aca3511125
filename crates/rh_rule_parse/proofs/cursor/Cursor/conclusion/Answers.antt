use Rattle.std.proofs.Common.{◌<◌, arith, lit<}
use Rattle.rh_rule_source.specs.Grammar.{productions, conclusion}
use Rattle.rh_rule_parse.proofs.cursor.Cursor.conclusion.Goals as goal

pub returns-in_default-clause-reads : goal.returns-in_default-clause-reads
unfolding productions
returns-in_default-clause-reads c rest h =
    let high : c.choose.result < 2 = c.choose.ensures.within conclusion rest h in
    let s0 = c.choose.ensures.known 1 (omega arith) conclusion rest h in
    let s1 = c.skip-in_default.ensures.skips _ _ s0.1 (lit< tt) in
    let s2 = c.form.ensures.reads _ s1.1 in
    (cc (s0.0, s1.0, s2.0), s2.1)
