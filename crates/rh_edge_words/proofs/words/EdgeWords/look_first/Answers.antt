use Rattle.std.proofs.Common.{◌∙◌, ap, sym, arith}
use Rattle.rh_edge_words.proofs.Allowed.{allows_look}
use Rattle.rh_edge_words.proofs.words.EdgeWords.look_first.Goals as goal

pub load-first-requires : goal.load-first-requires
load-first-requires g c = (
  ap (λ p. p.0) c.seat.view_is ∙ (c.requires.table ∙ sym (ap (λ p. p.0) c.self.view_is)),
  omega (arith, c.self.invariant.0.counts, c.self.invariant.0.some),
  allows_look g.N.SystemName.meaning _ _ _ _ c.seat.invariant.seated.live c.self.invariant.0.some,
)
