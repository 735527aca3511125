use Rattle.std.proofs.Common.{◌==◌, ℕ, ◌%◌, ap, sym, ◌∙◌}
use Rattle.std.specs.Int.{bit_at}
use Rattle.std.proofs.lemmas.List.{get_or_past}
use Rattle.std.proofs.lemmas.Nat.Bits.{bit_at-zero}
use Rattle.rh_system.specs.Bits.{bits_in}
use Rattle.rh_system.proofs.bits.has.Goals as goal

pub returns-in-Some : goal.returns-in-Some
unfolding bits_in
returns-in-Some c = c.is_set.ensures ∙ ap (λ (w : ℕ). bit_at w (c.args.bit % 64) == 1) (c.in-Some.ensures.lookup.3.1 0)

pub returns-in-None : goal.returns-in-None
unfolding bits_in
returns-in-None c =
    sym
    (ap (λ (w : ℕ). bit_at w (c.args.bit % 64) == 1) (get_or_past c.args.words.now _ 0 c.in-None.ensures.lookup.3)
    ∙ ap (λ (b : ℕ). b == 1) (bit_at-zero (c.args.bit % 64)))
