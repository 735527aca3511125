-- A stream of numbers: a linear congruential generator modulo 2^64, with the multiplier of the MMIX generator of D. E. Knuth (The Art of Computer Programming, volume 2, section 3.3.4).
use Rattle.std.specs.Prelude.{ℕ, ◌+◌, ◌*◌, ◌/◌, ◌%◌, ◌^◌}

-- the state after another one
unfoldable pub next : ℕ → ℕ
next state = (state * 6364136223846793005 + 1442695040888963407) % 2 ^ 64

-- the number below a limit that a state gives: its high bits, modulo the limit
abbrev pub drawn : ℕ → ℕ → ℕ
drawn limit state = (state / 2 ^ 33) % limit
