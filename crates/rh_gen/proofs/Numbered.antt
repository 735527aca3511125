-- Names that end in a number: they are names, they are proper, and they differ.
use Rattle.std.proofs.Common.{◌≡◌, ℕ, ◌+◌, ◌<◌, ◌^◌, ◌%◌, true, false, [], ◌∷◌, length, drop, refl, ap, ◌∙◌, arith}
use Rattle.std.proofs.lemmas.Bool.{and_from, agree_below_at, false_from_ne_true, le-leb}
use Rattle.std.proofs.lemmas.Fmt.{decimal_by_steps, decimal_injective, length-decimal-le}
use Rattle.std.proofs.lemmas.List.Folds.{list_all-append}
use Rattle.std.proofs.lemmas.Slice.Eq.{bytes_eq-Decides}
use Rattle.std.specs.Char.{is_ascii_alphabetic}
use Rattle.std.specs.Fmt.{decimal, digits}
use Rattle.std.specs.List.{list_all}
use Rattle.std.specs.Str.{bytes_eq}
use Rattle.rh_il.specs.Checks.{is_proper}
use Rattle.rh_il.specs.Name.{is_name, is_word_byte}
use Rattle.rh_gen.specs.Generated.{numbered, variables}

word_digit : (d : ℕ) → d < 10 → is_word_byte (48 + d) ≡ true
word_digit d small = agree_below_at (λ n. is_word_byte (48 + n)) (λ n. true) 10 d refl small

word_digits : (n : ℕ) → n < 2 ^ 64 → list_all is_word_byte (decimal n) ≡ true
word_digits n small =
    decimal_by_steps (λ m ds. list_all is_word_byte ds ≡ true) (λ m below. and_from (is_word_byte (48 + m)) true (word_digit m below) refl)
    (λ m ds low front.
    list_all-append is_word_byte ds ((48 + m % 10) ∷ [])
    ∙ and_from (list_all is_word_byte ds) (list_all is_word_byte ((48 + m % 10) ∷ [])) front (and_from (is_word_byte (48 + m % 10)) true (word_digit (m % 10) (omega arith)) refl))
    n small

pub is_numbered : (letter n : ℕ) → is_ascii_alphabetic letter ≡ true → n < 2 ^ 32 → is_name (numbered letter n) ≡ true
is_numbered letter n alphabetic small =
    let short = length-decimal-le 10 n (omega arith) (omega (arith, small)) (omega (arith, small)) in
    and_from (is_ascii_alphabetic letter) _ alphabetic (and_from _ (list_all is_word_byte (decimal n)) (le-leb (length (decimal n)) 31 (omega (arith, short))) (word_digits n (omega (arith, small))))

-- a procedure may have such a name
pub is_proper_numbered : (n : ℕ) → n < 2 ^ 32 → is_proper (numbered 112 n) ≡ true
is_proper_numbered n small = and_from _ true (is_numbered 112 n refl small) refl

pub variables_proper : list_all is_proper variables ≡ true
unfolding variables digits
variables_proper = refl

pub variables_count : length variables ≡ 8
unfolding variables
variables_count = refl

-- other numbers have other names
pub other_number : (letter m n : ℕ) → m < 2 ^ 32 → n < 2 ^ 32 → (m ≡ n → ⊥) → bytes_eq (numbered letter m) (numbered letter n) ≡ false
other_number letter m n small_m small_n differ =
    false_from_ne_true (bytes_eq (numbered letter m) (numbered letter n))
    (λ same. differ (decimal_injective m n (omega (arith, small_m)) (omega (arith, small_n)) (ap (drop 1) ((bytes_eq-Decides (numbered letter m) (numbered letter n)).0 same))))
