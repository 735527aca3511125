-- Each row's bit is one of the system.
use Rattle.std.specs.Prelude.{ℕ, ◌*◌, ◌<◌, ◌≤◌, ◌/◌, ◌%◌, ◌^◌, ◌-◌, ◌≡◌, true, zero, suc, replicate, IsTrue}
use Rattle.std.specs.List.{list_all}
use Rattle.std.specs.Int.{bit_at}
use Rattle.std.proofs.Common.{get_or, refl, ap, arith, ◌∙◌}
use Rattle.std.proofs.lemmas.List.{get_or-replicate}
use Rattle.std.proofs.lemmas.Nat.Bits.{bit_at_ones}
use Rattle.rh_system.specs.declared.system.Row.{Row}
use Rattle.rh_system.specs.Bits.{bits_in}
use Rattle.rh_system.specs.Rows.{IsCovered}
use Rattle.rh_system.specs.Covered.{covered_by_all}
use Rattle.rh_system.proofs.Supports.{and_both, test_from_set}
use Rattle.rh_bench.specs.declared.layers.Direction.{Direction}
use Rattle.rh_bench.specs.LayerRows.{rows_below, layer_rows}

pub is_full : (words bit : ℕ) → bit < 64 * words → IsTrue (bits_in (replicate words (2 ^ 64 - 1)) bit)
unfolding bits_in
is_full words bit small =
    let w : bit / 64 < words = omega arith in
    let p : bit % 64 < 64 = omega arith in
    test_from_set (bit_at (get_or (replicate words (2 ^ 64 - 1)) (bit / 64) 0) (bit % 64))
    (ap (λ (x : ℕ). bit_at x (bit % 64)) (get_or-replicate words (bit / 64) (2 ^ 64 - 1) 0 w) ∙ bit_at_ones 64 (bit % 64) p)

all_below : (direction : Direction) (span bits words n : ℕ) → n ≤ 64 * words → list_all (λ (row : Row). bits_in (replicate words (2 ^ 64 - 1)) row.bit) (rows_below direction span bits n) ≡ true
unfolding rows_below
all_below direction span bits words zero small = refl
all_below direction span bits words (suc n) small =
    let here : n < 64 * words = omega arith in
    let rest : n ≤ 64 * words = omega arith in
    and_both (bits_in (replicate words (2 ^ 64 - 1)) n) (list_all (λ (row : Row). bits_in (replicate words (2 ^ 64 - 1)) row.bit) (rows_below direction span bits n))
    (is_full words n here) (all_below direction span bits words n rest)

pub covered_layers : (direction : Direction) (width depth : ℕ) → IsCovered (replicate (width * depth) (2 ^ 64 - 1)) (layer_rows direction width depth)
covered_layers direction width depth =
    let small : 64 * (width * depth) ≤ 64 * (width * depth) = omega arith in
    covered_by_all (replicate (width * depth) (2 ^ 64 - 1)) (layer_rows direction width depth)
    (all_below direction (64 * width) (64 * (width * depth)) (width * depth) (64 * (width * depth)) small)
