-- The numbers that a text may name.
use Rattle.std.specs.Prelude.{ℕ, ℤ, pos, neg_ℤ, ◌^◌, Bool, true, false, Option, Some, None, ◌==◌, nat_le, if◌then◌else◌}

-- a number up to 2 ^ 63
abbrev pub up_to_limit : ℕ → Option ℕ
up_to_limit n = if nat_le n (2 ^ 63) then Some n else None

-- the i64 of a sign and a size up to 2 ^ 63, which has no i64 without `-`
abbrev pub signed : Bool → ℕ → Option ℤ
signed true size = Some (neg_ℤ (pos size))
signed false size = if size == 2 ^ 63 then None else Some (pos size)
