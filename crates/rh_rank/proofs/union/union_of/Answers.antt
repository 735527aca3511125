use Rattle.std.proofs.Common.{◌++◌, drop, ap, sym, ◌∙◌}
use Rattle.std.proofs.lemmas.List.{append-nil, nil_from_length}
use Rattle.rh_rank.specs.Union.{united}
use Rattle.rh_rank.proofs.Uniting.{no_others}
use Rattle.rh_rank.proofs.union.union_of.Goals as goal

pub returns-in_default : goal.returns-in_default
returns-in_default c =
    let words = c.loop-one.words.items in
    let ones = drop c.loop-one.one-index c.args.ones.now in
    let left = c.loop-one.left.now in
    sym (append-nil words) ∙ ap (λ more. words ++ more) (sym (ap (united ones) (nil_from_length left c.in_default.ensures.cases) ∙ no_others ones)) ∙ c.loop-one.invariant
