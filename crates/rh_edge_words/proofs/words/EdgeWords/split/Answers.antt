use Rattle.std.proofs.Common.{◌≡◌, ◌∙◌, length, ap, arith}
use Rattle.rh_edge_words.proofs.words.EdgeWords.split.Goals as goal

pub index_mut-requires : goal.index_mut-requires
index_mut-requires g c =
    let same : length c.as_slice.result.now ≡ length c.args.seat.now.1.seen = ap length (c.as_slice.ensures.value ∙ (c.seat.invariant.copied ∙ ap (λ p. p.1.seen) c.seat.view_is)) in
    omega (arith, c.in_ok-copy.ensures.len, c.look_first-found.ensures.some)
