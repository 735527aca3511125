-- The bits of one word that the words support, place by place.
use Rattle.std.proofs.Common.{◌≡◌, ℕ, ◌+◌, ◌*◌, ◌<◌, ◌≤◌, IsTrue, List}
use Rattle.std.specs.Int.{bit_at}
use Rattle.rh_system.specs.declared.system.Row.{Row}
use Rattle.rh_system.specs.Bits.{BitSet, IsSubword}
use Rattle.rh_system.specs.Rows.{supports}

pub record IsPartBelow (rows : List Row) (set : BitSet) (all word below part : ℕ) : Type 0 where
  pub sub : IsSubword part all
  pub above : (i : ℕ) → below ≤ i → bit_at part i ≡ 0
  pub supported : (i : ℕ) → i < below → bit_at part i ≡ 1 → IsTrue (supports rows set (64 * word + i))
  pub kept : (i : ℕ) → i < below → bit_at all i ≡ 1 → IsTrue (supports rows set (64 * word + i)) → bit_at part i ≡ 1
