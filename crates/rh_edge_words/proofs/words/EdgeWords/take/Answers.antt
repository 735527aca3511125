use Rattle.std.proofs.Common.{◌<◌, ◌∙◌, ap, sym, subst, arith}
use Rattle.atomic_table.specs.Seated.{TableId}
use Rattle.rh_edge_words.proofs.Allowed.{allows_stay}
use Rattle.rh_edge_words.proofs.words.EdgeWords.take.Goals as goal

pub swap-requires : goal.swap-requires
swap-requires g c =
    let same = ap (λ p. p.0) c.self.view_is in (
      ap (λ p. p.0) c.seat.view_is ∙ (c.requires.table ∙ sym same),
      subst (λ (t : TableId). c.place_of_dirty-place.result < t.words) (sym same) (omega (arith, c.place_of_dirty-place.ensures, c.requires.in_range)),
      allows_stay g.N.SystemName.meaning _ _ _ _ (λ _. 0) (omega (arith, c.place_of_dirty-place.ensures)),
    )
