use Rattle.std.proofs.Common.{◌≤◌, ◌∙◌, ap, sym, subst, arith}
use Rattle.rh_edge_words.proofs.Shares.{splits}
use Rattle.rh_edge_words.proofs.words.EdgeWords.divide.Goals as goal

pub split_seat-part-requires : goal.split_seat-part-requires
split_seat-part-requires g c = (
  ap (λ p. p.0) c.seat.view_is ∙ (c.requires.table ∙ sym (ap (λ p. p.0) c.self.view_is)),
  omega (arith, c.self.invariant.0.counts, c.self.invariant.0.some),
  splits g.N.SystemName.meaning _ _ (subst (λ p. 2 ≤ p.1.stake) (sym c.seat.view_is) c.requires.stake),
)
