use Rattle.std.proofs.Common.{ℕ, List, length, ap, subst, arith, ◌≡◌}
use Rattle.rh_rank.proofs.Expanded.{IsExpandedBelow, expanded_bit}
use Rattle.rh_rank.proofs.numbering.Numbering.expand.Goals as goal

pub returns-clause-bits : goal.returns-clause-bits
returns-clause-bits c =
    let me = c.args.self.now in
    let items = c.loop-word.expanded.items in
    let size = ap length c.as_slice-words.ensures.value in
    let last : c.loop-word.word ≡ length me.words = omega (arith, size) in
    let known = subst (λ word. IsExpandedBelow c.args.numbers.now me.words me.before items word) last
    (subst (λ (list : List ℕ). IsExpandedBelow c.args.numbers.now me.words list items c.loop-word.word) c.as_slice-before.ensures.value
    (subst (λ (list : List ℕ). IsExpandedBelow c.args.numbers.now list c.as_slice-before.result.now items c.loop-word.word) c.as_slice-words.ensures.value c.loop-word.invariant)) in
    expanded_bit c.args.numbers.now me.words me.before items me.counts known
