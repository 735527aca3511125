use Rattle.std.proofs.Common.{◌≤◌, List, ℕ, length, sym, subst}
use Rattle.std.specs.List.{All}
use Rattle.rh_rank.specs.Numbering.{ones_before}
use Rattle.rh_rank.proofs.Counted.{counts_within}
use Rattle.rh_rank.proofs.numbering.Numbering.before.Goals as goal

pub returns : goal.returns
returns c =
    let me = c.args.self.now in
    subst (λ (list : List ℕ). All (λ count. count ≤ ones_before me.words (length me.words)) list) (sym c.as_slice.ensures.value) (counts_within me.words me.before me.counts)
