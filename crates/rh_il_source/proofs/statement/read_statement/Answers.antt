use Rattle.std.proofs.Common.{List, ap, arith, lit<, ◌<◌, ◌∙◌, ◌∷◌}
use Rattle.rh_il.specs.declared.keyword.Keyword.TheVariants.{Goto as GotoWord}
use Rattle.rh_il_source.specs.declared.word.Word.{Word}
use Rattle.rh_il_source.specs.declared.word.Word.TheVariants.{Keyword as KeywordWord, Name}
use Rattle.rh_il_source.specs.Grammar.{productions, statement}
use Rattle.rh_il_source.proofs.statement.read_statement.Goals as goal

pub returns-in-1-clause-reads : goal.returns-in-1-clause-reads
unfolding productions
returns-in-1-clause-reads c rest h =
    let s0 = c.choose.ensures.known 1 c.in-1.is productions statement rest h in
    let s1 = c.skip-in-1.ensures.skips _ _ s0.1 (lit< tt) in
    let s2 = c.read_index-to.ensures.reads _ s1.1 in
    (s0.0 ∙ s1.0 ∙ ap (λ (ws : List Word). KeywordWord GotoWord ∷ ws) s2.0, s2.1)

pub returns-in-2-clause-reads : goal.returns-in-2-clause-reads
unfolding productions
returns-in-2-clause-reads c rest h =
    let s0 = c.choose.ensures.known 2 c.in-2.is productions statement rest h in
    let s1 = c.read_branch.ensures.reads _ s0.1 in
    (s0.0 ∙ s1.0, s1.1)

pub returns-in_default-clause-reads : goal.returns-in_default-clause-reads
unfolding productions
returns-in_default-clause-reads c rest h =
    let high : c.choose.result < 6 = c.choose.ensures.within productions statement rest h in
    let s0 = c.choose.ensures.known 5 (omega arith) productions statement rest h in
    let s1 = c.read_name-to.ensures.reads _ s0.1 in
    let s2 = c.skip-in_default.ensures.skips _ _ s1.1 (lit< tt) in
    let s3 = c.read_value.ensures.reads _ s2.1 in
    (s0.0 ∙ s1.0 ∙ ap (λ (ws : List Word). Name c.read_name-to.result ∷ ws) s2.0 ∙ s3.0, s3.1)
