-- The rows of a system, the sets that they support, and the greatest of these.
use Rattle.std.specs.Prelude.{ℕ, ◌+◌, ◌*◌, ◌<◌, ◌==◌, ◌≡◌, ◌↔◌, Bool, ◌&&◌, IsTrue, List, slice_index}
use Rattle.std.specs.List.{list_any, list_all, All}
use Rattle.std.specs.Int.{bit_at}
use Rattle.rh_system.specs.declared.system.Row.{Row}
use Rattle.rh_system.specs.Bits.{BitSet, bits_in, IsSubword}

-- whether some row of the bit has all of its premises in the set
unfoldable pub supports : List Row → BitSet → ℕ → Bool
supports rows set bit = list_any (λ row. (row.bit == bit) && list_all set row.premises) rows

-- each bit of the set has a row within the set
abbrev pub IsSupported : List Row → BitSet → Type 0
IsSupported rows set = (bit : ℕ) → IsTrue (set bit) → IsTrue (supports rows set bit)

-- the bit is in Greatest, the union of all supported sets
abbrev pub IsInGreatest : List Row → ℕ → Type 0
IsInGreatest rows bit = (set : BitSet) × IsSupported rows set × IsTrue (set bit)

-- the words hold all bits of Greatest
abbrev pub HoldsGreatest : List Row → List ℕ → Type 0
HoldsGreatest rows words = (bit : ℕ) → IsInGreatest rows bit → IsTrue (bits_in words bit)

-- the words hold the bits of Greatest and no others
abbrev pub IsGreatest : List Row → List ℕ → Type 0
IsGreatest rows words = (bit : ℕ) → IsTrue (bits_in words bit) ↔ IsInGreatest rows bit

-- a bit outside the full words has no row
abbrev pub IsCovered : List ℕ → List Row → Type 0
IsCovered full rows = All (λ row. IsTrue (bits_in full row.bit)) rows

-- the bits of one word that the words support
abbrev pub IsSupportedPart : List Row → List ℕ → ℕ → ℕ → Type 0
IsSupportedPart rows words word part =
    IsSubword part (slice_index words word)
    × ((place : ℕ) → place < 64 → bit_at part place ≡ 1 → IsTrue (supports rows (bits_in words) (64 * word + place)))
    × ((place : ℕ) → place < 64 → bit_at (slice_index words word) place ≡ 1 → IsTrue (supports rows (bits_in words) (64 * word + place)) → bit_at part place ≡ 1)
