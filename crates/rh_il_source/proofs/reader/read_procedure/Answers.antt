use Rattle.std.proofs.Common.{◌<◌, [], ◌∷◌, ◌++◌, refl, ap, ◌∙◌, arith, lit<}
use Rattle.rh_il_source.specs.Grammar.{productions, procedure}
use Rattle.rh_il_source.proofs.Joined.{source_joined}
use Rattle.rh_il_source.proofs.reader.read_procedure.Goals as goal

pub repeated-requires : goal.repeated-requires
unfolding productions
repeated-requires c = refl

pub returns-clause-reads : goal.returns-clause-reads
unfolding productions
returns-clause-reads c rest h =
    let high : c.choose.result < 1 = c.choose.ensures.within productions procedure rest h in
    let s0 = c.choose.ensures.known 0 (omega arith) productions procedure rest h in
    let s1 = c.read_name-called.ensures.reads _ s0.1 in
    let s2 = c.skip.ensures.skips _ _ s1.1 (lit< tt) in
    let s3 = c.read_name.ensures.reads _ s2.1 in
    let s4 = c.skip-2.ensures.skips _ _ s3.1 (lit< tt) in
    let l = c.in_ok-vars.ensures.reads _ s4.1 in
    let s5 = c.skip-3.ensures.skips _ _ l.left (lit< tt) in
    let b = c.in_ok-lines.ensures.reads _ s5.1 in
    let s6 = c.skip-4.ensures.skips _ _ b.left (lit< tt) in
    let param = c.in_ok-push.ensures.ok ∙ ap (λ parts. parts ++ c.read_name.result ∷ []) c.new-param.ensures in
    let vars = l.all_are ∙ ap (λ parts. parts ++ l.names) param in
    let lines = b.all_are ∙ ap (λ parts. parts ++ b.more) c.new.ensures in
    (source_joined c.read_name-called.result c.read_name.result l.names c.in_ok-vars.vars b.more c.in_ok-lines.lines _ _ _ _ _ _ _ _ _ vars lines (s0.0 ∙ s1.0) s2.0 s3.0 s4.0 l.words_are s5.0 b.words_are s6.0, s6.1)
