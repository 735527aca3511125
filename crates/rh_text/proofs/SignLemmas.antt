-- The sign that a text begins with is the one that is found.
use Rattle.std.proofs.Common.{◌≡◌, ℕ, ◌<◌, Bool, true, false, cond, eqb, ◌&&◌, List, [], ◌∷◌, ◌++◌, length, drop, Option, Some, None, refl, sym, ap, subst, arith}
use Rattle.std.proofs.lemmas.Bool.{eqb-true, and_parts, and_right}
use Rattle.rh_text.specs.declared.sign.Sign.{Sign}
use Rattle.rh_text.specs.declared.sign.Sign.TheVariants.{Becomes, Equal, Differ, Arrow, Semicolon, Comma, OpenParen, CloseParen, OpenBrace, CloseBrace, Plus, Minus, Star, Less, Ampersand, At, Underscore}
use Rattle.rh_text.specs.Signs.{sign_text, two_byte_sign, one_byte_sign, with_len, sign_at}

-- the sign's own text begins with it
pub sign_at-text : (s : Sign) (after : List ℕ) → sign_at (sign_text s ++ after) ≡ Some (s, length (sign_text s))
unfolding sign_at
sign_at-text Becomes after = refl
sign_at-text Equal after = refl
sign_at-text Differ after = refl
sign_at-text Arrow after = refl
sign_at-text Semicolon after = refl
sign_at-text Comma after = refl
sign_at-text OpenParen after = refl
sign_at-text CloseParen after = refl
sign_at-text OpenBrace after = refl
sign_at-text CloseBrace after = refl
sign_at-text Plus after = refl
sign_at-text Minus after = refl
sign_at-text Star after = refl
sign_at-text Less after = refl
sign_at-text Ampersand after = refl
sign_at-text At after = refl
sign_at-text Underscore after = refl

-- a fact of the sign that a chain of tests picks
pick : (P : Sign → Type 0) (t : Bool) (x s : Sign) (others : Option Sign) → (t ≡ true → P x) → (others ≡ Some s → P s) → cond t (Some x) others ≡ Some s → P s
pick P true x s others here later e = let same : x ≡ s = cc in subst P same (here refl)
pick P false x s others here later e = later e

two_text : (a b x y : ℕ) → (eqb a x && eqb b y) ≡ true → x ∷ y ∷ [] ≡ a ∷ b ∷ []
two_text a b x y e =
    let parts = and_parts (eqb a x) (eqb b y) e in
    let first = eqb-true a x parts.0 in
    let second = eqb-true b y parts.1 in
    cc

one_text : (a x : ℕ) → eqb a x ≡ true → x ∷ [] ≡ a ∷ []
one_text a x e = let first = eqb-true a x e in cc

pub two_byte_sign-is : (a b : ℕ) (s : Sign) → two_byte_sign a b ≡ Some s → sign_text s ≡ a ∷ b ∷ []
two_byte_sign-is a b s =
    let P : Sign → Type 0 = λ s. sign_text s ≡ a ∷ b ∷ [] in
    pick P _ _ s _ (two_text a b 58 61) (pick P _ _ s _ (two_text a b 61 61) (pick P _ _ s _ (two_text a b 33 61) (pick P _ _ s _ (two_text a b 61 62) (λ e. absurd cc))))

pub one_byte_sign-is : (a : ℕ) (s : Sign) → one_byte_sign a ≡ Some s → sign_text s ≡ a ∷ []
one_byte_sign-is a s =
    let P : Sign → Type 0 = λ s. sign_text s ≡ a ∷ [] in
    let next = λ (x : ℕ). one_text a x in
    pick P _ _ s _ (next 59) (pick P _ _ s _ (next 44) (pick P _ _ s _ (next 40) (pick P _ _ s _ (next 41) (pick P _ _ s _ (next 123) (pick P _ _ s _ (next 125) (pick P _ _ s _ (next 43) (pick P _ _ s _ (next 45) (pick P _ _ s _ (next 42) (pick P _ _ s _ (next 60) (pick P _ _ s _ (next 38) (pick P _ _ s _ (next 64) (pick P _ _ s _ (next 95) (λ e. absurd cc)))))))))))))

pick_len : (n m : ℕ) (o : Option Sign) (other : Option (Sign × ℕ)) (s : Sign) (P : Type 0) → (o ≡ Some s → m ≡ n → P) → (other ≡ Some (s, m) → P) → with_len n o other ≡ Some (s, m) → P
pick_len n m None other s P here later e = later e
pick_len n m (Some x) other s P here later e =
    let pair : ◌≡◌ {A = Sign × ℕ} (x, n) (s, m) = cc in
    here (ap (λ (q : Sign × ℕ). Some q.0) pair) (sym (ap (λ (q : Sign × ℕ). q.1) pair))

-- the text is the sign's, and then what comes after it
abbrev Begins : List ℕ → Sign → ℕ → Type 0
Begins bytes s n = (bytes ≡ sign_text s ++ drop n bytes) × (n ≡ length (sign_text s))

begins_two : (a b : ℕ) (bs : List ℕ) (s : Sign) (n : ℕ) → sign_text s ≡ a ∷ b ∷ [] → n ≡ 2 → Begins (a ∷ b ∷ bs) s n
begins_two a b bs s n e two = (rw (two, e), rw (two, e))

begins_one : (a : ℕ) (bs : List ℕ) (s : Sign) (n : ℕ) → sign_text s ≡ a ∷ [] → n ≡ 1 → Begins (a ∷ bs) s n
begins_one a bs s n e one = (rw (one, e), rw (one, e))

-- no sign has a second byte of 0
no_zero : (t : Bool) (x s : Sign) (others : Option Sign) → t ≡ false → (others ≡ Some s → ⊥) → cond t (Some x) others ≡ Some s → ⊥
no_zero true x s others here later e = cc
no_zero false x s others here later e = later e

second_zero : (a x y : ℕ) → eqb 0 y ≡ false → (eqb a x && eqb 0 y) ≡ false
second_zero a x y e = and_right (eqb a x) (eqb 0 y) e

two_of_zero : (a : ℕ) (s : Sign) → two_byte_sign a 0 ≡ Some s → ⊥
two_of_zero a s =
    no_zero _ _ s _ (second_zero a 58 61 refl) (no_zero _ _ s _ (second_zero a 61 61 refl) (no_zero _ _ s _ (second_zero a 33 61 refl) (no_zero _ _ s _ (second_zero a 61 62 refl) (λ e. cc))))

-- the text begins with the sign that is found
pub sign_at-is : (bytes : List ℕ) (s : Sign) (n : ℕ) → 0 < length bytes → sign_at bytes ≡ Some (s, n) → Begins bytes s n
unfolding sign_at
sign_at-is [] s n h e = absurd (omega arith)
sign_at-is (a ∷ []) s n h e =
    pick_len 2 n (two_byte_sign a 0) _ s _ (λ found _. absurd (two_of_zero a s found))
    (pick_len 1 n (one_byte_sign a) None s _ (λ found one. begins_one a [] s n (one_byte_sign-is a s found) one) (λ none. absurd cc)) e
sign_at-is (a ∷ b ∷ bs) s n h e =
    pick_len 2 n (two_byte_sign a b) _ s _ (λ found two. begins_two a b bs s n (two_byte_sign-is a b s found) two)
    (pick_len 1 n (one_byte_sign a) None s _ (λ found one. begins_one a (b ∷ bs) s n (one_byte_sign-is a s found) one) (λ none. absurd cc)) e
