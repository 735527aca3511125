-- Words with the bits of two lists of words.
use Rattle.std.proofs.Common.{ℕ, zero, suc, ◌≡◌, ◌/◌, ◌%◌, ◌≤◌, ◌==◌, ◌||◌, List, [], ◌∷◌, bit_or, get_or, length, max, refl, ap, ◌∙◌, arith}
use Rattle.std.specs.Int.{bit_at}
use Rattle.std.proofs.lemmas.Nat.Bits.{bit_at_or}
use Rattle.rh_system.specs.Bits.{bits_in}
use Rattle.rh_rank.specs.Union.{united}

pub no_others : (ones : List ℕ) → united ones [] ≡ []
no_others [] = refl
no_others (one ∷ ones) = refl

pub united_size : (ones others : List ℕ) → length ones ≡ length others → length (united ones others) ≡ length ones
united_size [] others same = refl
united_size (one ∷ ones) [] same = absurd (omega (arith, same))
united_size (one ∷ ones) (other ∷ others) same = ap suc (united_size ones others (omega (arith, same)))

word_of : (ones others : List ℕ) (k : ℕ) → length ones ≡ length others → get_or (united ones others) k 0 ≡ bit_or (get_or ones k 0) (get_or others k 0)
word_of [] [] k same = refl
word_of [] (other ∷ others) k same = absurd (omega (arith, same))
word_of (one ∷ ones) [] k same = absurd (omega (arith, same))
word_of (one ∷ ones) (other ∷ others) zero same = refl
word_of (one ∷ ones) (other ∷ others) (suc k) same = word_of ones others k (omega (arith, same))

either_one : (a b : ℕ) → a ≤ 1 → b ≤ 1 → (max a b == 1) ≡ (a == 1 || b == 1)
either_one zero zero a_bit b_bit = refl
either_one zero (suc zero) a_bit b_bit = refl
either_one (suc zero) zero a_bit b_bit = refl
either_one (suc zero) (suc zero) a_bit b_bit = refl
either_one zero (suc (suc b)) a_bit b_bit = absurd (omega (arith, b_bit))
either_one (suc zero) (suc (suc b)) a_bit b_bit = absurd (omega (arith, b_bit))
either_one (suc (suc a)) b a_bit b_bit = absurd (omega (arith, a_bit))

pub united_bits : (ones others : List ℕ) → length ones ≡ length others → (bit : ℕ) → bits_in (united ones others) bit ≡ (bits_in ones bit || bits_in others bit)
unfolding bits_in
united_bits ones others same bit =
    let one = get_or ones (bit / 64) 0 in
    let other = get_or others (bit / 64) 0 in
    ap (λ word. bit_at word (bit % 64) == 1) (word_of ones others (bit / 64) same)
    ∙ ap (λ n. n == 1) (bit_at_or one other (bit % 64))
    ∙ either_one (bit_at one (bit % 64)) (bit_at other (bit % 64)) (omega arith) (omega arith)
