-- Numbering the members of a set of bits in order.
use Rattle.std.specs.Prelude.{ℕ, zero, suc, ◌+◌, if◌then◌else◌}
use Rattle.rh_system.specs.Bits.{BitSet}

-- how many members of the set are below a bit (G. Jacobson, "Space-efficient static trees and graphs", 1989)
unfoldable pub rank : BitSet → ℕ → ℕ
rank set zero = 0
rank set (suc bit) = rank set bit + (if set bit then 1 else 0)
