-- One more of the pieces of a text.
use Rattle.std.proofs.Common.{◌≡◌, ℕ, zero, suc, ◌+◌, ◌<◌, List, [], ◌∷◌, ◌++◌, length, take, sym, ap, ◌∙◌, arith, append_assoc}
use Rattle.std.proofs.Math.Numerals.{add-one}
use Rattle.std.proofs.lemmas.List.{append-nil}
use Rattle.std.specs.Prelude.{slice_get}
use Rattle.std.specs.List.{flat_map}
use Rattle.std.specs.Option.{option_map_or}

more : {X : Type 0} (f : X → List ℕ) (xs : List X) (i : ℕ) → i < length xs → flat_map f (take (suc i) xs) ≡ flat_map f (take i xs) ++ option_map_or f (slice_get xs i) []
more f [] i below = absurd (omega arith)
more f (x ∷ xs) zero below = append-nil (f x)
more f (x ∷ xs) (suc i) below =
    ap (λ l. f x ++ l) (more f xs i (omega arith)) ∙ sym (append_assoc (f x) (flat_map f (take i xs)) (option_map_or f (slice_get xs i) []))

pub flat_map_at : {X : Type 0} (f : X → List ℕ) (xs : List X) (i : ℕ) → i < length xs → flat_map f (take (i + 1) xs) ≡ flat_map f (take i xs) ++ option_map_or f (slice_get xs i) []
flat_map_at f xs i below = ap (λ n. flat_map f (take n xs)) (add-one i) ∙ more f xs i below
