-- Counts of faults. Such a count stops at its last value.
use Rattle.std.specs.Prelude.{ℕ, ◌≡◌, ◌<◌, ◌+◌, ◌-◌, ◌^◌, min, ◌⊎◌, Bool, true, false}

-- the last value of a count: the largest number of 64 bits
abbrev pub last_count : ℕ
last_count = 2 ^ 64 - 1

-- the count after one more
abbrev pub next_count : ℕ → ℕ
next_count count = min (count + 1) last_count

-- the count after a call: a fault adds one, and any other call leaves it
abbrev pub count_after : Bool → ℕ → ℕ
count_after true count = next_count count
count_after false count = count

-- the count rose, or stands at its last value
abbrev pub Rises : ℕ → ℕ → Type 0
Rises old new = (old < new) ⊎ (new ≡ last_count)

-- no fault came: the count did not rise, and does not stand at its last value
abbrev pub Stays : ℕ → ℕ → Type 0
Stays old new = (new ≡ old) × (new < last_count)
