use Rattle.std.proofs.Common.{ℕ, ◌≡◌, ◌≢◌, ◌+◌, ◌==◌, refl, ap, ◌∙◌}
use Rattle.std.specs.Int.{bit_at}
use Rattle.rh_system.specs.Bits.{bits_in}
use Rattle.rh_rank.proofs.Spreading.{IsSpreadBelow, spread_more}
use Rattle.rh_rank.proofs.word.spread.Goals as goal
use Rattle.rh_rank.proofs.word.spread.Goals.{then-has, else-has}

pub loop-place-preserved : goal.loop-place-preserved
loop-place-preserved c =
    let place = c.in-Some.place in
    let known = c.loop-place.invariant in
    let within = c.in-Some.ensures.within in
    let numbers = c.args.numbers.now in
    let number = c.loop-place.number in
    let part = c.loop-place.part in
    let more : (next : ℕ) → (bit_at next place == 1) ≡ bits_in numbers number → ((other : ℕ) → other ≢ place → bit_at next other ≡ bit_at part other) → IsSpreadBelow numbers c.args.word c.args.first next (number + 1) (place + 1) =
    spread_more numbers c.args.word c.args.first part number c.loop-place.from known place within.0 within.1 c.in-Some.ensures.found c.in-Some.ensures.least in
    elim c.if-has.branch [
      | then-has w ↦ rw (w.part-is) (more w.with_bit-part.result (ap (λ bit. bit == 1) w.with_bit-part.ensures.here ∙ w.if-has.ensures) w.with_bit-part.ensures.others)
      | else-has w ↦ rw (w.part-is) (more part (ap (λ bit. bit == 1) (known.rest place within.0) ∙ w.if-has.ensures) (λ other apart. refl))
    ]
