use Rattle.std.proofs.Common.{List, [], ap, append_assoc, arith, lit<, sym, ◌++◌, ◌<◌, ◌∙◌, ◌∷◌}
use Rattle.rh_text.specs.declared.sign.Sign.TheVariants.{Becomes, OpenParen, CloseParen}
use Rattle.rh_il_source.specs.declared.word.Word.{Word}
use Rattle.rh_il_source.specs.declared.word.Word.TheVariants.{Sign as SignWord, Name}
use Rattle.rh_il_source.specs.Grammar.{productions, behind_name}
use Rattle.rh_il_source.specs.Source.{operand_words}
use Rattle.rh_il_source.proofs.statement.read_behind_name.Goals as goal

pub returns-in-0-clause-reads : goal.returns-in-0-clause-reads
unfolding productions
returns-in-0-clause-reads c rest h =
    let s0 = c.choose.ensures.known 0 c.in-0.is productions behind_name rest h in
    let s1 = c.skip.ensures.skips _ _ s0.1 (lit< tt) in
    let s2 = c.read_operand-arg.ensures.reads _ s1.1 in
    let s3 = c.skip-in-0.ensures.skips _ _ s2.1 (lit< tt) in (
      ap (λ (ws : List Word). Name c.args.to ∷ SignWord Becomes ∷ Name c.args.first ∷ ws)
          (s0.0 ∙ s1.0 ∙ ap (λ (ws : List Word). SignWord OpenParen ∷ ws)
          (s2.0 ∙ ap (λ (ws : List Word). operand_words c.read_operand-arg.result ++ ws) s3.0
          ∙ sym (append_assoc (operand_words c.read_operand-arg.result) (SignWord CloseParen ∷ []) c.skip-in-0.new.cursor.words.now))),
      s3.1,
    )

pub returns-in_default-clause-reads : goal.returns-in_default-clause-reads
unfolding productions
returns-in_default-clause-reads c rest h =
    let high : c.choose.result < 3 = c.choose.ensures.within productions behind_name rest h in
    let s0 = c.choose.ensures.known 2 (omega arith) productions behind_name rest h in
    (ap (λ (ws : List Word). Name c.args.to ∷ SignWord Becomes ∷ Name c.args.first ∷ ws) s0.0, s0.1)
