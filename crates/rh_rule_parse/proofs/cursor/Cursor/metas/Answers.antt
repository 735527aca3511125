use Rattle.std.proofs.Common.{◌<◌, arith, ◌∙◌}
use Rattle.rh_rule_source.specs.Grammar.{productions, metas}
use Rattle.rh_rule_parse.proofs.Steps.{both_ok}
use Rattle.rh_rule_parse.proofs.Lists.{params_separated}
use Rattle.rh_rule_parse.proofs.cursor.Cursor.metas.Goals as goal

pub separated-requires : goal.separated-requires
separated-requires c = params_separated

pub returns-in-0-clause-reads : goal.returns-in-0-clause-reads
unfolding productions
returns-in-0-clause-reads c =
    both_ok _ _ _ c.separated.result
    (λ params reads some rest h.
    let s0 = c.choose.ensures.known 0 c.in-0.is metas rest h in
    let s1 = reads rest s0.1 in
    (s0.0 ∙ s1.0, s1.1))
    c.separated.ensures.reads c.separated.ensures.some

pub returns-in_default-clause-reads : goal.returns-in_default-clause-reads
unfolding productions
returns-in_default-clause-reads c rest h =
    let high : c.choose.result < 2 = c.choose.ensures.within metas rest h in
    let s0 = c.choose.ensures.known 1 (omega arith) metas rest h in
    (rw c.new.ensures s0.0, s0.1)
