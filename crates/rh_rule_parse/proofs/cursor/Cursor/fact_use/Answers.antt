use Rattle.std.proofs.Common.{◌<◌, arith, append_assoc, lit<}
use Rattle.rh_rule_source.specs.Grammar.{productions, fact_use}
use Rattle.rh_rule_parse.proofs.Lists.{args_separated}
use Rattle.rh_rule_parse.proofs.cursor.Cursor.fact_use.Goals as goal

pub returns-clause-reads : goal.returns-clause-reads
unfolding productions
returns-clause-reads c rest h =
    let high : c.choose.result < 1 = c.choose.ensures.within fact_use rest h in
    let s0 = c.choose.ensures.known 0 (omega arith) fact_use rest h in
    let s1 = c.lower-name.ensures.reads _ s0.1 in
    let s2 = c.skip.ensures.skips _ _ s1.1 (lit< tt) in
    let s3 = c.in_ok-args.ensures.reads _ s2.1 in
    let s4 = c.skip-2.ensures.skips _ _ s3.1 (lit< tt) in
    (simp append_assoc (cc (s0.0, s1.0, s2.0, s3.0, s4.0)), s4.1)

pub separated-requires : goal.separated-requires
separated-requires c = args_separated
