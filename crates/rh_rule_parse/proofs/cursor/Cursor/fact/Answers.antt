use Rattle.std.proofs.Common.{◌<◌, arith, append_assoc, lit<}
use Rattle.rh_rule_source.specs.Grammar.{productions, fact}
use Rattle.rh_rule_parse.proofs.Lists.{atoms_separated, params_separated}
use Rattle.rh_rule_parse.proofs.cursor.Cursor.fact.Goals as goal

pub returns-clause-reads : goal.returns-clause-reads
unfolding productions
returns-clause-reads c rest h =
    let high : c.choose.result < 1 = c.choose.ensures.within fact rest h in
    let s0 = c.choose.ensures.known 0 (omega arith) fact rest h in
    let s1 = c.skip.ensures.skips _ _ s0.1 (lit< tt) in
    let s2 = c.lower-name.ensures.reads _ s1.1 in
    let s3 = c.skip-2.ensures.skips _ _ s2.1 (lit< tt) in
    let s4 = c.in_ok-params.ensures.reads _ s3.1 in
    let s5 = c.skip-3.ensures.skips _ _ s4.1 (lit< tt) in
    let s6 = c.skip-4.ensures.skips _ _ s5.1 (lit< tt) in
    let s7 = c.in_ok-atoms.ensures.reads _ s6.1 in
    let s8 = c.skip-5.ensures.skips _ _ s7.1 (lit< tt) in
    (simp append_assoc (cc (s0.0, s1.0, s2.0, s3.0, s4.0, s5.0, s6.0, s7.0, s8.0)), s8.1)

pub separated-requires : goal.separated-requires
separated-requires c = params_separated

pub separated-requires-2 : goal.separated-requires-2
separated-requires-2 c = atoms_separated
