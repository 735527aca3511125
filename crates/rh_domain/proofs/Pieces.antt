-- What stands at a number of a list that is put together from pieces.
use Rattle.std.proofs.Common.{ℕ, zero, suc, ◌≡◌, ◌+◌, ◌*◌, ◌<◌, ◌≤◌, List, [], ◌∷◌, ◌++◌, length, map, take, Option, Some, None, ◌⊎◌, inl, inr, refl, ap, sym, ◌∙◌, subst, arith}
use Rattle.std.specs.List.{flat_map}
use Rattle.std.specs.Option.{option_map}
use Rattle.std.specs.Prelude.{slice_get}
use Rattle.std.proofs.lemmas.Option.{slice_get-map, slice_get_within, same_Some}
use Rattle.std.proofs.Math.ListN.{length-append}

-- a number lies in the front, or in the back by so much
pub get_front : {X : Type 0} (xs ys : List X) (k : ℕ) (x : X) → slice_get xs k ≡ Some x → slice_get (xs ++ ys) k ≡ Some x
get_front [] ys k x read = absurd cc
get_front (z ∷ xs) ys zero x read = read
get_front (z ∷ xs) ys (suc k) x read = get_front xs ys k x read

pub get_back : {X : Type 0} (xs ys : List X) (k : ℕ) → slice_get (xs ++ ys) (length xs + k) ≡ slice_get ys k
get_back [] ys k = let same : 0 + k ≡ k = omega arith in ap (slice_get ys) same
get_back (z ∷ xs) ys k = let same : length (z ∷ xs) + k ≡ suc (length xs + k) = omega arith in ap (slice_get (z ∷ xs ++ ys)) same ∙ get_back xs ys k

pub get_side : {X : Type 0} (xs ys : List X) (k : ℕ) (x : X) → slice_get (xs ++ ys) k ≡ Some x
    → (slice_get xs k ≡ Some x) ⊎ ((j : ℕ) × (k ≡ length xs + j) × (slice_get ys j ≡ Some x))
get_side [] ys k x read = inr (k, omega arith, read)
get_side (z ∷ xs) ys zero x read = inl read
get_side (z ∷ xs) ys (suc k) x read = elim (get_side xs ys k x read) as (λ _. (slice_get (z ∷ xs) (suc k) ≡ Some x) ⊎ ((j : ℕ) × (suc k ≡ length (z ∷ xs) + j) × (slice_get ys j ≡ Some x))) [
  | inl front ↦ inl front
  | inr back ↦ let is = back.1 in inr (back.0, omega (arith, is), back.2)
]

module _ {X Y : Type 0} (f : X → List Y) where
  -- where the piece of an item begins
  abbrev pub start_of : List X → ℕ → ℕ
  start_of xs i = length (flat_map f (take i xs))

  -- what stands at a number of an item's piece
  pub part_read : (xs : List X) (i j : ℕ) (x : X) (y : Y) → slice_get xs i ≡ Some x → slice_get (f x) j ≡ Some y → slice_get (flat_map f xs) (start_of xs i + j) ≡ Some y
  part_read [] i j x y at read = absurd cc
  part_read (z ∷ xs) zero j x y at read =
      let same : 0 + j ≡ j = omega arith in
      ap (slice_get (flat_map f (z ∷ xs))) same ∙ get_front (f z) (flat_map f xs) j y (subst (λ w. slice_get (f w) j ≡ Some y) (sym (same_Some z x at)) read)
  part_read (z ∷ xs) (suc i) j x y at read =
      let size : length (f z ++ flat_map f (take i xs)) ≡ length (f z) + start_of xs i = length-append (f z) (flat_map f (take i xs)) in
      let same : length (f z ++ flat_map f (take i xs)) + j ≡ length (f z) + (start_of xs i + j) = omega (arith, size) in
      ap (slice_get (flat_map f (z ∷ xs))) same ∙ get_back (f z) (flat_map f xs) (start_of xs i + j) ∙ part_read xs i j x y at read

  -- where it stands: an item, and a number of its piece
  pub record IsPart (xs : List X) (k : ℕ) (y : Y) : Type 0 where
    pub place : ℕ
    pub within : ℕ
    pub item : X
    pub item_at : slice_get xs place ≡ Some item
    pub read : slice_get (f item) within ≡ Some y
    pub number_is : k ≡ start_of xs place + within

  pub part_of : (xs : List X) (k : ℕ) (y : Y) → slice_get (flat_map f xs) k ≡ Some y → IsPart xs k y
  part_of [] k y read = absurd cc
  part_of (z ∷ xs) k y read = elim (get_side (f z) (flat_map f xs) k y read) as (λ _. IsPart (z ∷ xs) k y) [
    | inl front ↦ record { place = 0; within = k; item = z; item_at = refl; read = front; number_is = omega arith }
    | inr back ↦
        let rest = part_of xs back.0 y back.2 in
        let is = back.1 in
        let inner = rest.number_is in
        let size : length (f z ++ flat_map f (take rest.place xs)) ≡ length (f z) + start_of xs rest.place = length-append (f z) (flat_map f (take rest.place xs)) in
        record { place = suc rest.place; within = rest.within; item = rest.item; item_at = rest.item_at; read = rest.read; number_is = omega (arith, is, inner, size) }
  ]

  -- a number lies in the piece of one item, at one place
  pub same_part : (xs : List X) (i j k l : ℕ) (x y : X) → slice_get xs i ≡ Some x → slice_get xs k ≡ Some y → j < length (f x) → l < length (f y) → start_of xs i + j ≡ start_of xs k + l → (i ≡ k) × (j ≡ l)
  same_part [] i j k l x y at other below within same = absurd cc
  same_part (z ∷ xs) zero j zero l x y at other below within same = (refl, omega (arith, same))
  same_part (z ∷ xs) zero j (suc k) l x y at other below within same =
      let size : length (f z ++ flat_map f (take k xs)) ≡ length (f z) + start_of xs k = length-append (f z) (flat_map f (take k xs)) in
      let less : j < length (f z) = subst (λ w. j < length (f w)) (sym (same_Some z x at)) below in
      absurd (omega (arith, size, less, same))
  same_part (z ∷ xs) (suc i) j zero l x y at other below within same =
      let size : length (f z ++ flat_map f (take i xs)) ≡ length (f z) + start_of xs i = length-append (f z) (flat_map f (take i xs)) in
      let less : l < length (f z) = subst (λ w. l < length (f w)) (sym (same_Some z y other)) within in
      absurd (omega (arith, size, less, same))
  same_part (z ∷ xs) (suc i) j (suc k) l x y at other below within same =
      let one : length (f z ++ flat_map f (take i xs)) ≡ length (f z) + start_of xs i = length-append (f z) (flat_map f (take i xs)) in
      let two : length (f z ++ flat_map f (take k xs)) ≡ length (f z) + start_of xs k = length-append (f z) (flat_map f (take k xs)) in
      let rest = same_part xs i j k l x y at other below within (omega (arith, one, two, same)) in
      (ap suc rest.0, rest.1)

  -- pieces of one size
  pub even_start : (xs : List X) (n i : ℕ) → ((x : X) → length (f x) ≡ n) → i ≤ length xs → start_of xs i ≡ i * n
  even_start xs n zero each below = let same : 0 * n ≡ 0 = omega arith in sym same
  even_start [] n (suc i) each below = absurd (omega (arith, below))
  even_start (z ∷ xs) n (suc i) each below =
      let rest = even_start xs n i each (omega (arith, below)) in
      let size : length (f z ++ flat_map f (take i xs)) ≡ length (f z) + start_of xs i = length-append (f z) (flat_map f (take i xs)) in
      let here = each z in
      let next : suc i * n ≡ n + i * n = omega arith in
      omega (arith, rest, size, here, next)

  pub even_length : (xs : List X) (n : ℕ) → ((x : X) → length (f x) ≡ n) → length (flat_map f xs) ≡ length xs * n
  even_length [] n each = let same : 0 * n ≡ 0 = omega arith in sym same
  even_length (z ∷ xs) n each =
      let rest = even_length xs n each in
      let size : length (f z ++ flat_map f xs) ≡ length (f z) + length (flat_map f xs) = length-append (f z) (flat_map f xs) in
      let here = each z in
      let next : suc (length xs) * n ≡ n + length xs * n = omega arith in
      omega (arith, rest, size, here, next)

  pub even_read : (xs : List X) (n i j : ℕ) (x : X) (y : Y) → ((x : X) → length (f x) ≡ n) → slice_get xs i ≡ Some x → slice_get (f x) j ≡ Some y → slice_get (flat_map f xs) (i * n + j) ≡ Some y
  even_read xs n i j x y each at read =
      let begins = even_start xs n i each (let within = slice_get_within xs i x at in omega (arith, within)) in
      subst (λ s. slice_get (flat_map f xs) (s + j) ≡ Some y) begins (part_read xs i j x y at read)

-- with an item in front of each
pub with_first : {X : Type 0} (x : X) (rests : List (List X)) (k : ℕ) (rest : List X) → slice_get rests k ≡ Some rest → slice_get (map (λ r. x ∷ r) rests) k ≡ Some (x ∷ rest)
with_first x rests k rest read = slice_get-map (λ r. x ∷ r) rests k ∙ ap (option_map (λ r. x ∷ r)) read

pub first_of : {X : Type 0} (x : X) (rests : List (List X)) (k : ℕ) (whole : List X) → slice_get (map (λ r. x ∷ r) rests) k ≡ Some whole → (rest : List X) × (slice_get rests k ≡ Some rest) × (whole ≡ x ∷ rest)
first_of x rests k whole read = by (slice_get rests k) refl
  where
    by : (o : Option (List _)) → slice_get rests k ≡ o → (rest : List _) × (slice_get rests k ≡ Some rest) × (whole ≡ x ∷ rest)
    by None is = (let clash : None ≡ Some whole = sym (ap (option_map (λ r. x ∷ r)) is) ∙ sym (slice_get-map (λ r. x ∷ r) rests k) ∙ read in absurd cc)
    by (Some rest) is = (rest, is, same_Some whole (x ∷ rest) (sym read ∙ slice_get-map (λ r. x ∷ r) rests k ∙ ap (option_map (λ r. x ∷ r)) is))
