-- The number that a word spells.
use Rattle.std.proofs.Common.{ℕ, ◌≡◌, ◌<◌, ◌^◌, List, Bool, true, false, Option, Some, None, arith, refl, ap, sym, subst, ◌∙◌}
use Rattle.std.specs.Prelude.{nat_lt, ◌&&◌, if◌then◌else◌}
use Rattle.std.specs.Fmt.{decimal}
use Rattle.std.specs.Str.{bytes_eq}
use Rattle.std.specs.Str.Parse.{digits_value}
use Rattle.std.proofs.lemmas.Bool.{and_from, lt-ltb, ltb-true}
use Rattle.std.proofs.lemmas.Fmt.{decimal_is_IsNumeral}
use Rattle.std.proofs.lemmas.Option.{none-some, same_Some}
use Rattle.std.proofs.lemmas.Slice.Eq.{bytes_eq-Decides}
use Rattle.rh_log_text.specs.Reading.{number_of}

-- whether the word spells the number
spells : List ℕ → ℕ → Bool
spells word value = nat_lt value (2 ^ 32) && bytes_eq word (decimal value)

pub number_back : (n : ℕ) → n < 2 ^ 32 → number_of (decimal n) ≡ Some n
number_back n small =
    ap (λ value. if nat_lt value (2 ^ 32) && bytes_eq (decimal n) (decimal value) then Some value else None) (decimal_is_IsNumeral n (omega (arith, small))).1
    ∙ ap (λ (test : Bool). if test then Some n else None) (and_from _ _ (lt-ltb n (2 ^ 32) small) ((bytes_eq-Decides (decimal n) (decimal n)).1 refl))

pub record Spells (word : List ℕ) (n : ℕ) : Type 0 where
  pub small : n < 2 ^ 32
  pub text : word ≡ decimal n

both : (a b : Bool) → (a && b) ≡ true → (a ≡ true) × (b ≡ true)
both true b e = (refl, e)
both false b e = absurd (cc)

read_so : (word : List ℕ) (value : ℕ) (test : Bool) → test ≡ (nat_lt value (2 ^ 32) && bytes_eq word (decimal value)) → (n : ℕ) → (if test then Some value else None) ≡ Some n → Spells word n
read_so word value true told n e =
    let parts = both (nat_lt value (2 ^ 32)) (bytes_eq word (decimal value)) (sym told) in
    subst (Spells word) (same_Some value n e) record {
      small = ltb-true value (2 ^ 32) parts.0;
      text = (bytes_eq-Decides word (decimal value)).0 parts.1;
    }
read_so word value false told n e = absurd (none-some n e)

pub number_is : (word : List ℕ) (n : ℕ) → number_of word ≡ Some n → Spells word n
number_is word n e = read_so word (digits_value 10 word) _ refl n e

none_by : (word : List ℕ) (r : Option ℕ) → number_of word ≡ r → ((n : ℕ) → n < 2 ^ 32 → word ≡ decimal n → ⊥) → r ≡ None
none_by word None e never = refl
none_by word (Some n) e never = let is = number_is word n e in absurd (never n is.small is.text)

-- a word that spells no number of 32 bits
pub number_none : (word : List ℕ) → ((n : ℕ) → n < 2 ^ 32 → word ≡ decimal n → ⊥) → number_of word ≡ None
number_none word never = none_by word (number_of word) refl never
