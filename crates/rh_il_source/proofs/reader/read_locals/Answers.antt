use Rattle.std.proofs.Common.{◌<◌, List, [], ◌∷◌, ◌++◌, refl, sym, ap, ◌∙◌, arith, lit<, append_assoc, append-nil}
use Rattle.rh_il.specs.declared.keyword.Keyword.TheVariants.{Var as VarWord}
use Rattle.rh_il_source.specs.declared.word.Word.{Word}
use Rattle.rh_il_source.specs.declared.word.Word.TheVariants.{Keyword as KeywordWord, Name}
use Rattle.rh_il_source.specs.Grammar.{productions, locals}
use Rattle.rh_il_source.proofs.Steps.{ok_then}
use Rattle.rh_il_source.proofs.reader.read_locals.Goals as goal

pub repeated-requires : goal.repeated-requires
unfolding productions
repeated-requires c = refl

pub returns-in_ok-push-in-0-clause-reads : goal.returns-in_ok-push-in-0-clause-reads
unfolding productions
returns-in_ok-push-in-0-clause-reads c =
    ok_then _ _ c.repeated.result
    (λ all reads rest h.
    let s0 = c.choose.ensures.known 0 c.in-0.is productions locals rest h in
    let s1 = c.skip.ensures.skips _ _ s0.1 (lit< tt) in
    let s2 = c.read_name.ensures.reads _ s1.1 in
    let l = reads rest s2.1 in
    let first = c.read_name.result in
    record {
      names = first ∷ l.more;
      all_are = l.all_are ∙ ap (λ parts. parts ++ l.more) c.in_ok-push-in-0.ensures.ok ∙ append_assoc c.args.vars (first ∷ []) l.more;
      words_are = s0.0 ∙ s1.0 ∙ ap (λ (ws : List Word). KeywordWord VarWord ∷ ws) (s2.0 ∙ ap (λ (ws : List Word). Name first ∷ ws) l.words_are);
      left = l.left;
    })
    c.repeated.ensures.reads

pub returns-in_default-clause-reads : goal.returns-in_default-clause-reads
unfolding productions
returns-in_default-clause-reads c rest h =
    let high : c.choose.result < 2 = c.choose.ensures.within productions locals rest h in
    let s0 = c.choose.ensures.known 1 (omega arith) productions locals rest h in
    record { names = []; all_are = sym (append-nil c.args.vars); words_are = s0.0; left = s0.1 }
