-- What supports a bit of a system in layers.
use Rattle.std.proofs.Common.{◌≡◌, ℕ, zero, suc, ◌+◌, ◌*◌, ◌<◌, ◌≤◌, ◌==◌, inl, inr, ◌&&◌, ◌||◌, Bool, true, false, [], ◌∷◌, refl, ap, arith, sym, ◌∙◌}
use Rattle.std.specs.Prelude.{if◌then◌else◌, length, replicate, ◌^◌, ◌-◌}
use Rattle.std.specs.List.{list_any, list_all}
use Rattle.std.proofs.lemmas.Bool.{cases_lt}
use Rattle.std.proofs.lemmas.Bool.Decides.{nat_tests}
use Rattle.std.proofs.lemmas.List.{length-replicate}
use Rattle.rh_system.specs.declared.system.Row.{Row}
use Rattle.rh_system.specs.Bits.{BitSet}
use Rattle.rh_system.specs.Rows.{supports}
use Rattle.rh_bench.specs.declared.layers.Direction.{Direction}
use Rattle.rh_bench.specs.LayerRows.{needed, begins, premises_of, rows_below, layer_rows}

or_false : (a : Bool) → (a || false) ≡ a
or_false true = refl
or_false false = refl

and_true : (a : Bool) → (a && true) ≡ a
and_true true = refl
and_true false = refl

-- a bit past the rows has none
none_below : (direction : Direction) (span bits n bit : ℕ) (set : BitSet) → n ≤ bit → supports (rows_below direction span bits n) set bit ≡ false
unfolding supports rows_below
none_below direction span bits zero bit set past = refl
none_below direction span bits (suc n) bit set past =
    let differ : (n == bit) ≡ false = grind (arith, nat_tests) in
    let rest : n ≤ bit = omega arith in
    ap (λ (b : Bool). (b && list_all set (premises_of direction span bits n)) || list_any (λ (row : Row). (row.bit == bit) && list_all set row.premises) (rows_below direction span bits n)) differ
    ∙ none_below direction span bits n bit set rest

-- a bit below the end has one row
one_below : (direction : Direction) (span bits n bit : ℕ) (set : BitSet) → bit < n → supports (rows_below direction span bits n) set bit ≡ list_all set (premises_of direction span bits bit)
unfolding supports rows_below
one_below direction span bits zero bit set below = absurd (omega arith)
one_below direction span bits (suc n) bit set below =
    elim (cases_lt bit n) [
      | inl lower ↦
          let differ : (n == bit) ≡ false = grind (arith, nat_tests) in
          ap (λ (b : Bool). (b && list_all set (premises_of direction span bits n)) || list_any (λ (row : Row). (row.bit == bit) && list_all set row.premises) (rows_below direction span bits n)) differ
          ∙ one_below direction span bits n bit set lower
      | inr last ↦
          let same : (n == bit) ≡ true = grind (arith, nat_tests) in
          let is : n ≡ bit = omega arith in
          ap (λ (b : Bool). (b && list_all set (premises_of direction span bits n)) || list_any (λ (row : Row). (row.bit == bit) && list_all set row.premises) (rows_below direction span bits n)) same
          ∙ ap (λ (b : Bool). list_all set (premises_of direction span bits n) || b) (none_below direction span bits n bit set last)
          ∙ or_false (list_all set (premises_of direction span bits n))
          ∙ ap (λ (k : ℕ). list_all set (premises_of direction span bits k)) is
    ]

by_begins : (set : BitSet) (far : ℕ) (b : Bool) → list_all set (if b then [] else (far ∷ [])) ≡ (if b then true else set far)
by_begins set far true = refl
by_begins set far false = and_true (set far)

layer_supports : (direction : Direction) (width depth bit : ℕ) (set : BitSet) → bit < 64 * length (replicate (width * depth) (2 ^ 64 - 1))
    → supports (layer_rows direction width depth) set bit ≡ (if begins direction (64 * width) (64 * (width * depth)) bit then true else set (needed direction (64 * width) (64 * (width * depth)) bit))
unfolding premises_of
layer_supports direction width depth bit set small =
    let long : length (replicate (width * depth) (2 ^ 64 - 1)) ≡ width * depth = length-replicate (width * depth) (2 ^ 64 - 1) in
    let below : bit < 64 * (width * depth) = omega arith in
    one_below direction (64 * width) (64 * (width * depth)) (64 * (width * depth)) bit set below
    ∙ by_begins set (needed direction (64 * width) (64 * (width * depth)) bit) (begins direction (64 * width) (64 * (width * depth)) bit)

-- a bit that begins is supported
pub with_begins : (direction : Direction) (width depth bit : ℕ) (set : BitSet) (answer : Bool) → bit < 64 * length (replicate (width * depth) (2 ^ 64 - 1))
    → answer ≡ begins direction (64 * width) (64 * (width * depth)) bit → answer ≡ true → answer ≡ supports (layer_rows direction width depth) set bit
with_begins direction width depth bit set answer small is set_so =
    set_so
    ∙ ap (λ (b : Bool). if b then true else set (needed direction (64 * width) (64 * (width * depth)) bit)) (sym set_so ∙ is)
    ∙ sym (layer_supports direction width depth bit set small)

-- another is where the bit that it needs is in the set
pub without_begins : (direction : Direction) (width depth bit : ℕ) (set : BitSet) (answer : Bool) → bit < 64 * length (replicate (width * depth) (2 ^ 64 - 1))
    → answer ≡ begins direction (64 * width) (64 * (width * depth)) bit → answer ≡ false → set (needed direction (64 * width) (64 * (width * depth)) bit) ≡ supports (layer_rows direction width depth) set bit
without_begins direction width depth bit set answer small is not_so =
    ap (λ (b : Bool). if b then true else set (needed direction (64 * width) (64 * (width * depth)) bit)) (sym not_so ∙ is)
    ∙ sym (layer_supports direction width depth bit set small)
