-- Writing a cell of the store, and stores that read alike.
use Rattle.std.proofs.Common.{ℕ, zero, suc, ◌≡◌, ◌<◌, List, [], ◌∷◌, length, slice_set, refl, ap, arith}
use Rattle.rh_il.specs.declared.value.Value.{Value}
use Rattle.rh_term.specs.Store.{write}
use Rattle.rh_term.proofs.Stores.{SameReads}

-- a write inside the store sets that cell
pub write_inside : (cells : List Value) (location : ℕ) (value : Value) → location < length cells → write cells location value ≡ slice_set cells location value
write_inside [] location value inside = absurd (omega arith)
write_inside (held ∷ cells) zero value inside = refl
write_inside (held ∷ cells) (suc location) value inside = ap (λ rest. held ∷ rest) (write_inside cells location value (omega arith))

-- stores of one length that read alike are one
pub same_reads : (left right : List Value) → length left ≡ length right → SameReads left right → left ≡ right
same_reads [] [] size same = refl
same_reads [] (b ∷ right) size same = absurd (omega arith)
same_reads (a ∷ left) [] size same = absurd (omega arith)
same_reads (a ∷ left) (b ∷ right) size same =
    let head : a ≡ b = same 0 in
    let tail : left ≡ right = same_reads left right (omega arith) (λ l. same (suc l)) in
    cc
