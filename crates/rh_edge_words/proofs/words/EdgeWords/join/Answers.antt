use Rattle.std.proofs.Common.{◌≡◌, ◌∙◌, ◌+◌, ◌*◌, ◌^◌, ◌≤◌, ap, sym, arith}
use Rattle.rh_system.specs.Bits.{bit_count}
use Rattle.rh_edge_words.proofs.Allowed.{allows_look}
use Rattle.rh_edge_words.proofs.Shares.{joins}
use Rattle.rh_edge_words.proofs.Seats.{count_small, joined_seat}
use Rattle.rh_edge_words.proofs.words.EdgeWords.join.Goals as goal

pub join_seat-requires : goal.join_seat-requires
join_seat-requires g c = (
  ap (λ p. p.0) c.seat.view_is ∙ (c.requires.table ∙ sym (ap (λ p. p.0) c.self.view_is)),
  ap (λ p. p.0) c.other.view_is ∙ (c.requires.other_table ∙ sym (ap (λ p. p.0) c.self.view_is)),
  c.other.invariant.empty,
  omega (arith, c.self.invariant.0.counts, c.self.invariant.0.some),
  joins g.N.SystemName.meaning _ _ _ _ c.seat.invariant.seated.live c.other.invariant.seated.live,
)

pub load-found-requires : goal.load-found-requires
load-found-requires g c =
    let stake : c.join_seat.new.seat.me.0.stake ≡ c.seat.inside.seat.me.0.stake + c.other.inside.seat.me.0.stake = ap (λ p. p.0.stake) c.join_seat.ensures.2 in (
      c.join_seat.ensures.0 ∙ (ap (λ p. p.0) c.seat.view_is ∙ (c.requires.table ∙ sym (ap (λ p. p.0) c.self.view_is))),
      omega (arith, c.self.invariant.0.counts, c.self.invariant.0.some),
      allows_look g.N.SystemName.meaning _ _ _ _ (omega (arith, c.seat.invariant.seated.live)) c.self.invariant.0.some,
    )

pub overflow_add-seat : goal.overflow_add-seat
overflow_add-seat g c =
    let m = g.N.SystemName.meaning in
    let small : bit_count c.seat.inside.seat.me.0.credits ≤ 2 ^ 32 * 64 = count_small m c.seat.inside.seat.me.0 c.seat.invariant.seated in
    let small' : bit_count c.other.inside.seat.me.0.credits ≤ 2 ^ 32 * 64 = count_small m c.other.inside.seat.me.0 c.other.invariant.seated in
    let is : c.seat.inside.cleared ≡ bit_count c.seat.inside.seat.me.0.credits = c.seat.invariant.counted ∙ c.seat.invariant.seated.counted in
    let is' : c.other.inside.cleared ≡ bit_count c.other.inside.seat.me.0.credits = c.other.invariant.counted ∙ c.other.invariant.seated.counted in
    record { fits = omega arith }

pub invariant_of-seat : goal.invariant_of-seat
invariant_of-seat g c = joined_seat g.N.SystemName.meaning _ _ _ _ _ _ _ _ _ _ _ c.seat.invariant c.other.invariant c.join_seat.ensures.2 c.load-found.ensures.2
