use Rattle.std.proofs.Common.{◌<◌, arith, lit<}
use Rattle.rh_rule_source.specs.Grammar.{productions, rule}
use Rattle.rh_rule_source.specs.Source.{params_words, pattern_words, when_words, conclusion_words}
use Rattle.rh_rule_parse.proofs.Joined.{rule_joined}
use Rattle.rh_rule_parse.proofs.cursor.Cursor.rule.Goals as goal

pub returns-clause-reads : goal.returns-clause-reads
unfolding productions
returns-clause-reads c rest h =
    let high : c.choose.result < 1 = c.choose.ensures.within rule rest h in
    let s0 = c.choose.ensures.known 0 (omega arith) rule rest h in
    let s1 = c.skip.ensures.skips _ _ s0.1 (lit< tt) in
    let s2 = c.lower-name.ensures.reads _ s1.1 in
    let s3 = c.skip-2.ensures.skips _ _ s2.1 (lit< tt) in
    let s4 = c.in_ok-params.ensures.reads _ s3.1 in
    let s5 = c.skip-3.ensures.skips _ _ s4.1 (lit< tt) in
    let s6 = c.skip-4.ensures.skips _ _ s5.1 (lit< tt) in
    let s7 = c.pattern-pattern.ensures.reads _ s6.1 in
    let s8 = c.in_ok-conds.ensures.reads _ s7.1 in
    let s9 = c.skip-5.ensures.skips _ _ s8.1 (lit< tt) in
    let s10 = c.in_ok-conclusion.ensures.reads _ s9.1 in
    let s11 = c.skip-6.ensures.skips _ _ s10.1 (lit< tt) in
    (rule_joined _ _ _ _ _ _ _ _ _ _ _ _ _ (params_words c.in_ok-params.params) (pattern_words c.pattern-pattern.result) (when_words c.in_ok-conds.conds) (conclusion_words c.in_ok-conclusion.conclusion) _ _ _ _ _ _ _ s0.0 s1.0 s2.0 s3.0 s4.0 s5.0 s6.0 s7.0 s8.0 s9.0 s10.0 s11.0, s11.1)
