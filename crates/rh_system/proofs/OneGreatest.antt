-- Greatest supports itself, and is one.
use Rattle.std.proofs.Common.{◌≡◌, ◌≢◌, ℕ, ◌+◌, ◌*◌, ◌^◌, ◌<◌, ◌⊎◌, inl, inr, IsTrue, List, length, get_or, sym, arith, ◌∙◌}
use Rattle.std.specs.Int.{bit_at}
use Rattle.std.proofs.lemmas.Bool.{cases_eq}
use Rattle.std.proofs.lemmas.List.{ext_get_or}
use Rattle.std.proofs.lemmas.Nat.Bits.{bit_at-lt, same_from_bits_below}
use Rattle.rh_system.specs.declared.system.Row.{Row}
use Rattle.rh_system.specs.Bits.{bits_in}
use Rattle.rh_system.specs.Rows.{IsSupported, IsGreatest}
use Rattle.rh_system.proofs.Supports.{greatest_supported, bits_in_at, set_from_test, test_from_set}

pub greatest_closed : (rows : List Row) (words : List ℕ) → IsGreatest rows words → IsSupported rows (bits_in words)
greatest_closed rows words greatest bit h = greatest_supported rows words (λ b. (greatest b).1) bit ((greatest bit).0 h)

same_bit : (a b : ℕ) → a < 2 → b < 2 → (a ≡ 1 → b ≡ 1) → (b ≡ 1 → a ≡ 1) → (a ≡ 1) ⊎ (a ≢ 1) → a ≡ b
same_bit a b p q f g (inl one) = let h = f one in omega arith
same_bit a b p q f g (inr none) = let h : b ≢ 1 = λ e. none (g e) in omega arith

across : (rows : List Row) (words others : List ℕ) → IsGreatest rows words → IsGreatest rows others → (word place : ℕ) → place < 64 → bit_at (get_or words word 0) place ≡ 1 → bit_at (get_or others word 0) place ≡ 1
across rows words others p q word place small h =
    let here : IsTrue (bits_in words (64 * word + place)) = bits_in_at words word place small ∙ test_from_set _ h in
    let there : IsTrue (bits_in others (64 * word + place)) = (q (64 * word + place)).1 ((p (64 * word + place)).0 here) in
    set_from_test (bit_at (get_or others word 0) place) (sym (bits_in_at others word place small) ∙ there)

pub same_greatest : (rows : List Row) (words others : List ℕ) → IsGreatest rows words → IsGreatest rows others → length words ≡ length others
    → ((k : ℕ) → get_or words k 0 < 2 ^ 64) → ((k : ℕ) → get_or others k 0 < 2 ^ 64) → words ≡ others
same_greatest rows words others p q as_long small_words small_others =
    ext_get_or 0 words others as_long
    (λ word within. same_from_bits_below 64 (get_or words word 0) (get_or others word 0) (small_words word) (small_others word)
    (λ place small. same_bit (bit_at (get_or words word 0) place) (bit_at (get_or others word 0) place) (bit_at-lt _ place) (bit_at-lt _ place)
    (across rows words others p q word place small) (across rows others words q p word place small) (cases_eq (bit_at (get_or words word 0) place) 1)))
