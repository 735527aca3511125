use Rattle.std.proofs.Common.{ℕ, List, map, ap, sym, ◌∙◌, subst}
use Rattle.rh_sparse.specs.Lists.{ArePairs}
use Rattle.rh_sparse.proofs.PairCounts.{turned_pairs}
use Rattle.rh_sparse.proofs.flow.Flow.new.Goals as goal

pub of-requires-2 : goal.of-requires-2
of-requires-2 c =
    let pairs = c.loop-laid.pairs.items in
    let same = c.as_slice-4.ensures.value ∙ c.in_ok-turned.ensures ∙ ap (map (λ (pair : ℕ × ℕ). (pair.1, pair.0))) c.as_slice-2.ensures.value in
    subst (λ (list : List (ℕ × ℕ)). ArePairs c.args.words c.loop-laid.nodes list) (sym same) (turned_pairs c.loop-laid.nodes c.args.words pairs c.loop-laid.invariant.pairs)
