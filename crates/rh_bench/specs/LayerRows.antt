-- The rows of a system in layers.
use Rattle.std.specs.Prelude.{ℕ, ◌+◌, ◌-◌, ◌*◌, ◌%◌, zero, suc, Bool, ◌&&◌, nat_le, nat_lt, List, [], ◌∷◌, if◌then◌else◌}
use Rattle.rh_system.specs.declared.system.Row.{Row}
use Rattle.rh_bench.specs.declared.layers.Direction.{Direction}
use Rattle.rh_bench.specs.declared.layers.Direction.TheVariants.{Forward, Backward}

-- the bit at its place one layer back, or one layer on; a bit past the last one where there is no such layer
unfoldable pub needed : Direction → (span bits : ℕ) → ℕ → ℕ
needed Forward span bits bit = if nat_lt bit span then bits + bit else bit - span
needed Backward span bits bit = bit + span

-- whether the bit begins by itself: in the layer that needs no other those from place 16 of each word on do
unfoldable pub begins : Direction → (span bits : ℕ) → ℕ → Bool
begins direction span bits bit = nat_le bits (needed direction span bits bit) && nat_le 16 (bit % 64)

-- what the bit rests on, unless it begins by itself
unfoldable pub premises_of : Direction → (span bits : ℕ) → ℕ → List ℕ
premises_of direction span bits bit = if begins direction span bits bit then [] else (needed direction span bits bit ∷ [])

-- the one row of each bit below n, where a layer has `span` bits
unfoldable pub rows_below : Direction → (span bits : ℕ) → ℕ → List Row
rows_below direction span bits zero = []
rows_below direction span bits (suc n) = record { bit = n; premises = premises_of direction span bits n } ∷ rows_below direction span bits n

-- the rows of so many layers of so many words
abbrev pub layer_rows : Direction → (width depth : ℕ) → List Row
layer_rows direction width depth = rows_below direction (64 * width) (64 * (width * depth)) (64 * (width * depth))
