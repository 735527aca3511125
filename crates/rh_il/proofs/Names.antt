-- How a name is put into 32 bytes.
use Rattle.std.proofs.Common.{ℕ, ◌≡◌, true, List, ◌++◌, length, take, drop, replicate, ap, sym, ◌∙◌}
use Rattle.std.proofs.lemmas.List.{drop-replicate}
use Rattle.std.proofs.Math.Seq.{take-append_seam}
use Rattle.rh_il.specs.Name.{is_name}
use Rattle.rh_il.specs.Spelling.{IsSpelling, padded}

-- a name, then zeros, in place of as many zeros
pub spelled : (name : List ℕ) → is_name name ≡ true → IsSpelling (name ++ drop (length name) (replicate 32 0)) (length name)
spelled name named =
    let front : take (length name) (name ++ drop (length name) (replicate 32 0)) ≡ name = take-append_seam name _ in
    record {
      name = ap is_name front ∙ named;
      len_is = ap length front;
      bytes_is = ap padded front ∙ ap (λ zeros. name ++ zeros) (sym (drop-replicate (length name) 32 0));
    }
