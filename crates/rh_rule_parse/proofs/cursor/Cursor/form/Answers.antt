use Rattle.std.proofs.Common.{◌<◌, arith, lit<}
use Rattle.rh_rule_source.specs.Grammar.{productions, form}
use Rattle.rh_rule_parse.proofs.cursor.Cursor.form.Goals as goal

pub returns-in_default-clause-reads : goal.returns-in_default-clause-reads
unfolding productions
returns-in_default-clause-reads c rest h =
    let high : c.choose.result < 5 = c.choose.ensures.within form rest h in
    let s0 = c.choose.ensures.known 4 (omega arith) form rest h in
    let s1 = c.upper-to-in_default.ensures.reads _ s0.1 in
    let s2 = c.skip-in_default.ensures.skips _ _ s1.1 (lit< tt) in
    let s3 = c.right.ensures.reads _ s2.1 in
    (cc (s0.0, s1.0, s2.0, s3.0), s3.1)
