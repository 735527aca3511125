-- A name gives back how it lies in its 32 bytes.
use Rattle.std.specs.Prelude.{ℕ, ◌≡◌, List, take, length}
use Rattle.std.proofs.Common.{◌∙◌, ap}
use Rattle.rh_il.specs.Spelling.{padded, IsSpelling}
use Rattle.rh_il.specs.declared.name.Name.TheInside.{Inside}

abbrev with_fields : List ℕ → ℕ → Inside
with_fields bytes len = record { bytes = bytes; len = len }

pub unspelled : (a : Inside) → IsSpelling a.bytes a.len → record { bytes = padded (take a.len a.bytes); len = length (take a.len a.bytes) } ≡ a
unspelled a spelling =
    ap (λ bytes. with_fields bytes (length (take a.len a.bytes))) spelling.bytes_is ∙ ap (with_fields a.bytes) spelling.len_is
