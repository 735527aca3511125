use Rattle.std.proofs.Common.{List, ap, arith, lit<, ◌<◌, ◌∙◌, ◌∷◌}
use Rattle.rh_text.specs.declared.sign.Sign.TheVariants.{Becomes, Ampersand}
use Rattle.rh_il_source.specs.declared.word.Word.{Word}
use Rattle.rh_il_source.specs.declared.word.Word.TheVariants.{Sign as SignWord, Name}
use Rattle.rh_il_source.specs.Grammar.{productions, value}
use Rattle.rh_il_source.proofs.statement.read_value.Goals as goal

pub returns-in-1-clause-reads : goal.returns-in-1-clause-reads
unfolding productions
returns-in-1-clause-reads c rest h =
    let s0 = c.choose.ensures.known 1 c.in-1.is productions value rest h in
    let s1 = c.skip-in-1.ensures.skips _ _ s0.1 (lit< tt) in
    let s2 = c.read_name-of.ensures.reads _ s1.1 in
    (ap (λ (ws : List Word). Name c.args.to ∷ SignWord Becomes ∷ ws) (s0.0 ∙ s1.0 ∙ ap (λ (ws : List Word). SignWord Ampersand ∷ ws) s2.0), s2.1)

pub returns-in_default-clause-reads : goal.returns-in_default-clause-reads
unfolding productions
returns-in_default-clause-reads c rest h =
    let high : c.choose.result < 5 = c.choose.ensures.within productions value rest h in
    let s0 = c.choose.ensures.known 4 (omega arith) productions value rest h in
    let s1 = c.read_signed-left.ensures.reads _ s0.1 in
    let s2 = c.read_behind_base.ensures.reads _ s1.1 in
    (ap (λ (ws : List Word). Name c.args.to ∷ SignWord Becomes ∷ ws) (s0.0 ∙ s1.0) ∙ s2.0, s2.1)
