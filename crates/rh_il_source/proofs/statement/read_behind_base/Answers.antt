use Rattle.std.proofs.Common.{List, ap, arith, ◌++◌, ◌<◌, ◌∷◌}
use Rattle.rh_text.specs.declared.sign.Sign.TheVariants.{Becomes}
use Rattle.rh_il_source.specs.declared.word.Word.{Word}
use Rattle.rh_il_source.specs.declared.word.Word.TheVariants.{Sign as SignWord, Name}
use Rattle.rh_il_source.specs.Grammar.{productions, behind_base}
use Rattle.rh_il_source.specs.Source.{operand_words}
use Rattle.rh_il_source.proofs.statement.read_behind_base.Goals as goal

pub returns-in_default-clause-reads : goal.returns-in_default-clause-reads
unfolding productions
returns-in_default-clause-reads c rest h =
    let high : c.choose.result < 2 = c.choose.ensures.within productions behind_base rest h in
    let s0 = c.choose.ensures.known 1 (omega arith) productions behind_base rest h in
    (ap (λ (ws : List Word). Name c.args.to ∷ SignWord Becomes ∷ (operand_words c.args.left ++ ws)) s0.0, s0.1)
