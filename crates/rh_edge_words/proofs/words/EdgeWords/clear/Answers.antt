use Rattle.std.proofs.Common.{◌≡◌, ◌∙◌, ◌≤◌, ◌^◌, ◌*◌, ap, sym, subst, arith}
use Rattle.std.proofs.Common.{bit_and, ◌-◌}
use Rattle.std.specs.Int.RustNames.{count_ones}
use Rattle.std.proofs.lemmas.Nat.{and_le_l, ones-le}
use Rattle.rh_core.specs.Moves.{MayClear}
use Rattle.rh_system.specs.Bits.{bit_count}
use Rattle.rh_edge_words.proofs.Allowed.{allows_clear}
use Rattle.rh_edge_words.proofs.Seats.{count_small, cleared_seat}
use Rattle.rh_edge_words.proofs.words.EdgeWords.clear.Goals as goal

pub fetch_and-found-requires : goal.fetch_and-found-requires
fetch_and-found-requires g c = (
  ap (λ p. p.0) c.seat.view_is ∙ (c.requires.table ∙ sym (ap (λ p. p.0) c.self.view_is)),
  omega (arith, c.self.invariant.0.counts, c.requires.in_range),
  allows_clear g.N.SystemName.meaning _ _ _ _ _ c.seat.invariant.seated.live c.requires.in_range c.ranges.mask.fits
      (subst (λ p. MayClear g.N.SystemName.meaning.rows p.1.seen c.args.word c.args.mask) (sym c.seat.view_is) c.requires.lawful),
)

pub overflow_add-seat : goal.overflow_add-seat
overflow_add-seat g c =
    let small : bit_count c.seat.inside.seat.me.0.credits ≤ 2 ^ 32 * 64 = count_small g.N.SystemName.meaning c.seat.inside.seat.me.0 c.seat.invariant.seated in
    let before : c.seat.inside.cleared ≡ bit_count c.seat.inside.seat.me.0.credits = c.seat.invariant.counted ∙ c.seat.invariant.seated.counted in
    let le : bit_and c.fetch_and-found.result (18446744073709551615 - c.args.mask) ≤ c.fetch_and-found.result = and_le_l c.fetch_and-found.result _ in
    let few : count_ones (bit_and c.fetch_and-found.result (18446744073709551615 - c.args.mask)) ≤ 64 = ones-le 64 _ (omega (arith, c.fetch_and-found.type_inv)) in
    record { fits = omega (arith, c.from.ensures) }

pub invariant_of-seat : goal.invariant_of-seat
invariant_of-seat g c =
    cleared_seat g.N.SystemName.meaning _ _ _ _ _ _ _ _ _ c.seat.invariant c.fetch_and-found.ensures.2 c.from.ensures
