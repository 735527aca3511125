-- A name is text.
use Rattle.std.proofs.Common.{◌≡◌, ℕ, zero, suc, ◌<◌, ◌≤◌, leb, eqb, true, ◌&&◌, ◌||◌, List, [], ◌∷◌, length, arith, ⊎_elim}
use Rattle.std.proofs.lemmas.Bool.{and_parts, or_cases, false≢true, eqb-true, leb-true}
use Rattle.std.proofs.lemmas.Str.{IsUtf8-from_ascii}
use Rattle.std.proofs.lemmas.Str.Ascii.{IsAscii-from_all}
use Rattle.std.specs.List.{All, list_all}
use Rattle.std.specs.Prelude.{nat_le}
use Rattle.std.specs.Int.{is_in_range}
use Rattle.std.specs.Str.{IsUtf8}
use Rattle.std.specs.Char.{is_ascii_alphabetic, is_ascii_alphanumeric}
use Rattle.rh_il.specs.Name.{is_name, is_word_byte}

within : (low high b : ℕ) → is_in_range low high b ≡ true → b ≤ high
within low high b e = leb-true b high (and_parts (leb low b) (leb b high) e).1

alphabetic-lt : (b : ℕ) → is_ascii_alphabetic b ≡ true → b < 128
alphabetic-lt b e =
    ⊎_elim (λ h. let le = within 65 90 b h in omega (arith, le)) (λ h. let le = within 97 122 b h in omega (arith, le))
    (or_cases (is_in_range 65 90 b) (is_in_range 97 122 b) e)

alphanumeric-lt : (b : ℕ) → is_ascii_alphanumeric b ≡ true → b < 128
alphanumeric-lt b e =
    ⊎_elim
    (λ d.
    ⊎_elim (λ h. let le = within 48 57 b h in omega (arith, le)) (λ h. let le = within 65 90 b h in omega (arith, le))
    (or_cases (is_in_range 48 57 b) (is_in_range 65 90 b) d))
    (λ h. let le = within 97 122 b h in omega (arith, le))
    (or_cases (is_in_range 48 57 b || is_in_range 65 90 b) (is_in_range 97 122 b) e)

word_byte-lt : (b : ℕ) → is_word_byte b ≡ true → b < 128
word_byte-lt b e =
    ⊎_elim (alphanumeric-lt b) (λ h. let same = eqb-true b 95 h in omega (arith, same)) (or_cases (is_ascii_alphanumeric b) (eqb b 95) e)

all_behind : (b : ℕ) (bs : List ℕ) → b < 128 → All (λ c. c < 128) bs → All (λ c. c < 128) (b ∷ bs)
all_behind b bs first rest zero d below = first
all_behind b bs first rest (suc k) d below = rest k d (omega arith)

all_word : (bs : List ℕ) → list_all is_word_byte bs ≡ true → All (λ b. b < 128) bs
all_word [] e = λ k d h. absurd (omega arith)
all_word (b ∷ bs) e =
    let split = and_parts (is_word_byte b) (list_all is_word_byte bs) e in all_behind b bs (word_byte-lt b split.0) (all_word bs split.1)

pub name_is_text : (bs : List ℕ) → is_name bs ≡ true → IsUtf8 bs
name_is_text [] e = absurd (false≢true e)
name_is_text (b ∷ bs) e =
    let first = and_parts (is_ascii_alphabetic b) (nat_le (length bs) 31 && list_all is_word_byte bs) e in
    let rest = and_parts (nat_le (length bs) 31) (list_all is_word_byte bs) first.1 in
    IsUtf8-from_ascii (b ∷ bs) (IsAscii-from_all (b ∷ bs) (all_behind b bs (alphabetic-lt b first.0) (all_word bs rest.1)))
