-- Lists whose items are changed one by one, by their numbers.
use Rattle.std.proofs.Common.{ℕ, zero, suc, ◌≡◌, ◌+◌, ◌<◌, ◌≤◌, Bool, ◌&&◌, ◌||◌, List, [], ◌∷◌, ◌++◌, map, length, take, get_or, Some, None, refl, ap, sym, subst, ◌∙◌, arith}
use Rattle.std.proofs.Math.Seq.{take-length}
use Rattle.std.proofs.lemmas.Option.{get_or_from_slice_get, slice_get-get_or, slice_get_within}
use Rattle.std.specs.Prelude.{slice_get}
use Rattle.std.proofs.lemmas.List.{length-take-le, take_more}
use Rattle.std.specs.List.{enumerate_from, list_all, list_any}

-- something stands within the list
pub some_within : {X : Type 0} (xs : List X) (i : ℕ) → i < length xs → None ≡ slice_get xs i → ⊥
some_within [] i below none = omega (arith, below)
some_within (x ∷ xs) zero below none = absurd cc
some_within (x ∷ xs) (suc i) below none = some_within xs i (omega (arith, below)) none

module _ {X : Type 0} (change : ℕ → X → X) where
  -- the items changed, the first of which has this number
  abbrev pub changed : ℕ → List X → List X
  changed from xs = map (λ at. change at.0 at.1) (enumerate_from from xs)

  pub changed_size : (from : ℕ) (xs : List X) → length (changed from xs) ≡ length xs
  changed_size from [] = refl
  changed_size from (x ∷ xs) = ap suc (changed_size (from + 1) xs)

  pub changed_front : (from n : ℕ) (xs : List X) → take n (changed from xs) ≡ changed from (take n xs)
  changed_front from zero xs = refl
  changed_front from (suc n) [] = refl
  changed_front from (suc n) (x ∷ xs) = ap (λ ys. change from x ∷ ys) (changed_front (from + 1) n xs)

  -- a test that no change turns
  pub changed_any : (test : X → Bool) → ((k : ℕ) (x : X) → test (change k x) ≡ test x) → (from : ℕ) (xs : List X) → list_any test (changed from xs) ≡ list_any test xs
  changed_any test kept from [] = refl
  changed_any test kept from (x ∷ xs) = ap (λ b. b || list_any test (changed (from + 1) xs)) (kept from x) ∙ ap (λ b. test x || b) (changed_any test kept (from + 1) xs)

  pub changed_all : (test : X → Bool) → ((k : ℕ) (x : X) → test (change k x) ≡ test x) → (from : ℕ) (xs : List X) → list_all test (changed from xs) ≡ list_all test xs
  changed_all test kept from [] = refl
  changed_all test kept from (x ∷ xs) = ap (λ b. b && list_all test (changed (from + 1) xs)) (kept from x) ∙ ap (λ b. test x && b) (changed_all test kept (from + 1) xs)

  changed_append : (from : ℕ) (xs ys : List X) → changed from (xs ++ ys) ≡ changed from xs ++ changed (from + length xs) ys
  changed_append from [] ys = let same : from ≡ from + 0 = omega arith in ap (λ n. changed n ys) same
  changed_append from (x ∷ xs) ys =
      let same : (from + 1) + length xs ≡ from + suc (length xs) = omega arith in
      ap (λ r. change from x ∷ r) (changed_append (from + 1) xs ys ∙ ap (λ n. changed (from + 1) xs ++ changed n ys) same)

  -- one more item changed
  pub changed_more : (xs items : List X) (i : ℕ) (otherwise new : X) (before after : List X) → items ≡ xs → i < length items
      → (slice_get xs i ≡ Some (get_or items i otherwise) → new ≡ change i (get_or items i otherwise)) → before ≡ changed 0 (take i xs) → after ≡ before ++ new ∷ [] → after ≡ changed 0 (take (i + 1) xs)
  changed_more xs items i otherwise new before after same below is so_far one =
      let inside : i < length xs = subst (λ l. i < length l) same below in
      let item : get_or items i otherwise ≡ get_or xs i otherwise = ap (λ l. get_or l i otherwise) same in
      let new_is : new ≡ change i (get_or xs i otherwise) = is (slice_get-get_or xs i otherwise inside ∙ ap Some (sym item)) ∙ ap (change i) item in
      let taken = length-take-le i xs (omega (arith, inside)) in
      let size : i ≡ 0 + length (take i xs) = omega (arith, taken) in
      one ∙ ap (λ l. l ++ new ∷ []) so_far ∙ ap (λ x. changed 0 (take i xs) ++ x ∷ []) new_is ∙ ap (λ n. changed 0 (take i xs) ++ change n (get_or xs i otherwise) ∷ []) size
      ∙ sym (ap (changed 0) (take_more xs i otherwise inside) ∙ changed_append 0 (take i xs) (get_or xs i otherwise ∷ []))

  pub changed_next : (xs : List X) (i : ℕ) (x new : X) (before after : List X) → slice_get xs i ≡ Some x → new ≡ change i x → before ≡ changed 0 (take i xs) → after ≡ before ++ new ∷ [] → after ≡ changed 0 (take (i + 1) xs)
  changed_next xs i x new before after read new_is so_far one =
      changed_more xs xs i x new before after refl (slice_get_within xs i x read) (λ _. new_is ∙ ap (change i) (sym (get_or_from_slice_get xs i x x read))) so_far one

  -- all items changed
  pub changed_whole : (xs items : List X) (i : ℕ) (made : List X) → items ≡ xs → i ≤ length items → length items ≤ i → made ≡ changed 0 (take i xs) → made ≡ changed 0 xs
  changed_whole xs items i made same inside past is =
      let size : i ≡ length xs = omega (arith, inside, past, ap length same) in
      is ∙ ap (λ n. changed 0 (take n xs)) size ∙ ap (changed 0) (take-length xs)
