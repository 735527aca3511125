use Rattle.std.proofs.Common.{◌≡◌, ◌<◌, ◌∷◌, [], List, length, refl, arith, lit<}
use Rattle.rh_rule_source.specs.declared.source.SourceCond.{SourceCond}
use Rattle.rh_rule_source.specs.declared.word.Word.TheVariants.{Fixed}
use Rattle.rh_rule_source.specs.Grammar.{productions, when, WHEN}
use Rattle.rh_rule_source.specs.Source.{when_words, conds_words}
use Rattle.rh_rule_parse.proofs.Steps.{both_ok}
use Rattle.rh_rule_parse.proofs.Lists.{conds_separated}
use Rattle.rh_rule_parse.proofs.cursor.Cursor.when.Goals as goal

-- where there are conditions, they stand after `when`
some_words : (conds : List SourceCond) → 0 < length conds → when_words conds ≡ Fixed WHEN ∷ conds_words conds
some_words [] some = absurd (omega arith)
some_words (x ∷ xs) some = refl

pub separated-requires : goal.separated-requires
separated-requires c = conds_separated

pub returns-in-0-clause-reads : goal.returns-in-0-clause-reads
unfolding productions
returns-in-0-clause-reads c =
    both_ok _ _ _ c.separated.result
    (λ conds reads some rest h.
    let s0 = c.choose.ensures.known 0 c.in-0.is when rest h in
    let s1 = c.skip.ensures.skips _ _ s0.1 (lit< tt) in
    let s2 = reads rest s1.1 in
    (cc (s0.0, s1.0, s2.0, some_words conds some), s2.1))
    c.separated.ensures.reads c.separated.ensures.some

pub returns-in_default-clause-reads : goal.returns-in_default-clause-reads
unfolding productions
returns-in_default-clause-reads c rest h =
    let high : c.choose.result < 2 = c.choose.ensures.within when rest h in
    let s0 = c.choose.ensures.known 1 (omega arith) when rest h in
    (rw c.new.ensures s0.0, s0.1)
