use Rattle.std.proofs.Common.{◌∙◌, ap, sym, arith}
use Rattle.rh_edge_words.proofs.Allowed.{allows_load}
use Rattle.rh_edge_words.proofs.words.EdgeWords.load.Goals as goal

pub load-found-requires : goal.load-found-requires
load-found-requires g c = (
  ap (λ p. p.0) c.seat.view_is ∙ (c.requires.table ∙ sym (ap (λ p. p.0) c.self.view_is)),
  omega (arith, c.self.invariant.0.counts, c.requires.in_range),
  allows_load g.N.SystemName.meaning _ _ _ _ c.seat.invariant.seated.live c.requires.in_range,
)
