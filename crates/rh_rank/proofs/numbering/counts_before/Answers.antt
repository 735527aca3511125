use Rattle.std.proofs.Common.{List, ℕ, ◌+◌, count_ones, get_or, sym, subst}
use Rattle.rh_rank.proofs.Counted.{AreCountsBelow, counts_more, counts_none}
use Rattle.rh_rank.proofs.numbering.counts_before.Goals as goal

pub loop-word-init : goal.loop-word-init
loop-word-init c = subst (λ (items : List ℕ). AreCountsBelow c.args.words.now items 0 0) (sym c.in_ok-before.ensures.items) (counts_none c.args.words.now)

pub loop-word-preserved : goal.loop-word-preserved
loop-word-preserved c =
    let words = c.args.words.now in
    let word = c.loop-word.word-index in
    subst (λ (items : List ℕ). AreCountsBelow words items (c.loop-word.count + count_ones (get_or words word 0)) (word + 1)) (sym c.in_ok-push.ensures.items)
    (counts_more words c.loop-word.before.items c.loop-word.count word c.loop-word.invariant (c.type_inv.words word).fits)
