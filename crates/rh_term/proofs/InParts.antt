-- Lists that are made of the parts of another.
use Rattle.std.proofs.Common.{◌≡◌, ℕ, zero, suc, ◌<◌, ◌+◌, Bool, ◌&&◌, List, [], ◌∷◌, ◌++◌, Some, length, take, drop, get_or, slice_get, arith, refl, ap, sym, subst, ◌∙◌}
use Rattle.std.specs.List.{flat_map, list_all}
use Rattle.std.proofs.Math.Seq.{drop-cons}
use Rattle.std.proofs.lemmas.Grind.{flat_map-append}
use Rattle.std.proofs.lemmas.List.{append-nil, drop_more, length-append, take_more}
use Rattle.std.proofs.lemmas.List.Folds.{list_all-append}

pub all_flat : {A B : Type 0} (p : B → Bool) (f : A → List B) (xs : List A) → list_all (λ x. list_all p (f x)) xs ≡ list_all p (flat_map f xs)
all_flat p f [] = refl
all_flat p f (x ∷ xs) = ap (λ rest. list_all p (f x) && rest) (all_flat p f xs) ∙ sym (list_all-append p (f x) (flat_map f xs))

-- what is read of a list of two
pub in_second : {B : Type 0} (xs ys : List B) (number left : ℕ) → number ≡ length xs + left → slice_get (xs ++ ys) number ≡ slice_get ys left
in_second [] ys number left e = let same : number ≡ left = omega (arith, e) in ap (slice_get ys) same
in_second (x ∷ xs) ys zero left e = absurd (omega (arith, e))
in_second (x ∷ xs) ys (suc number) left e = in_second xs ys number left (omega (arith, e))

pub in_first : {B : Type 0} (xs ys : List B) (number : ℕ) (y : B) → slice_get xs number ≡ Some y → slice_get (xs ++ ys) number ≡ Some y
in_first [] ys number y e = cc
in_first (x ∷ xs) ys zero y e = e
in_first (x ∷ xs) ys (suc number) y e = in_first xs ys number y e

module _ {A B : Type 0} (f : A → List B) (xs : List A) (i : ℕ) (d : A) (within : i < length xs) where
  pub one_more : flat_map f (take (i + 1) xs) ≡ flat_map f (take i xs) ++ f (get_or xs i d)
  one_more =
      ap (flat_map f) (take_more xs i d within)
      ∙ flat_map-append f (take i xs) (get_or xs i d ∷ [])
      ∙ ap (λ part. flat_map f (take i xs) ++ part) (append-nil (f (get_or xs i d)))

  -- past one part more
  pub passed : (number left rest : ℕ) → number ≡ length (flat_map f (take i xs)) + left → left ≡ length (f (get_or xs i d)) + rest
      → number ≡ length (flat_map f (take (i + 1) xs)) + rest
  passed number left rest e h = omega (arith, e, h, ap length one_more, length-append (flat_map f (take i xs)) (f (get_or xs i d)))

-- in the next part
pub reached : {A B : Type 0} (f : A → List B) (xs : List A) (i : ℕ) (d : A) → i < length xs → (number left : ℕ) (y : B)
    → number ≡ length (flat_map f (take i xs)) + left → slice_get (f (get_or xs i d)) left ≡ Some y → slice_get (flat_map f xs) number ≡ Some y
reached f [] i d within number left y e h = absurd (omega (arith, within))
reached f (x ∷ xs) zero d within number left y e h =
    in_first (f x) (flat_map f xs) number y (subst (λ n. slice_get (f x) n ≡ Some y) (let same : left ≡ number = omega (arith, e) in same) h)
reached f (x ∷ xs) (suc i) d within number left y e h =
    let front : length (flat_map f (take (suc i) (x ∷ xs))) ≡ length (f x) + length (flat_map f (take i xs)) = length-append (f x) (flat_map f (take i xs)) in
    let rest : ℕ = length (flat_map f (take i xs)) + left in
    in_second (f x) (flat_map f xs) number rest (omega (arith, e, front))
    ∙ reached f xs i d (omega (arith, within)) rest left y refl h
