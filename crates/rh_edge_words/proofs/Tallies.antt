-- What a seat counts, after each kind of step.
use Rattle.std.proofs.Common.{◌≡◌, ℕ, suc, ◌+◌, ◌^◌, ◌<◌, ◌≤◌, List, [], ◌∷◌, length, get_or, set, bit_or, refl, sym, ap, subst, arith, ◌∙◌, sum_by}
use Rattle.std.specs.Int.{bit_at}
use Rattle.std.specs.Int.RustNames.{count_ones}
use Rattle.std.proofs.lemmas.List.{length-replicate}
use Rattle.std.proofs.lemmas.List.Sums.{sum_by-set, sum_by-cons}
use Rattle.std.proofs.lemmas.Nat.{and_le_l, or_lt, ones_le_self, pow_pos}
use Rattle.rh_core.specs.Moves.{taken, united}
use Rattle.rh_core.proofs.Lists.{by_place, united_at, by_copies, none_of_copies}
use Rattle.rh_edge_words.specs.declared.view.View.{View}
use Rattle.rh_edge_words.specs.Views.{after_clear, new_view, sums, both_views, spent_view}
use Rattle.rh_edge_words.specs.Rule.{IsTallied}
use Rattle.rh_edge_words.proofs.Counts.{ones_added}

pub none_bits : count_ones 0 ≡ 0
none_bits = let le : count_ones 0 ≤ 0 = ones_le_self 0 in omega arith

pub spent_tallied : (full : List ℕ) → IsTallied full spent_view
spent_tallied full = record { loads = λ h. absurd (omega arith); no_loads = λ h. refl; fit = λ k. pow_pos 64; counted = refl }

-- the seat's credits stay
pub same_tally : (full : List ℕ) (v w : View) → IsTallied full v → 0 < v.stake → 0 < w.stake → w.credits ≡ v.credits → w.count ≡ v.count → length w.loads ≡ length v.loads → IsTallied full w
same_tally full v w tallied some_stake still credits count loads = record {
  loads = λ h. loads ∙ tallied.loads some_stake;
  no_loads = λ h. absurd (omega arith);
  fit = λ k. subst (λ (c : List ℕ). get_or c k 0 < 2 ^ 64) (sym credits) (tallied.fit k);
  counted = count ∙ (tallied.counted ∙ sym (ap (λ (c : List ℕ). sum_by count_ones c) credits));
}

pub clear_tally : (full : List ℕ) (v : View) (word mask found : ℕ) → IsTallied full v → 0 < v.stake → word < length v.credits → found < 2 ^ 64
    → ((place : ℕ) → place < 64 → bit_at (get_or v.credits word 0) place + bit_at (taken found mask) place ≤ 1) → IsTallied full (after_clear v word mask found)
clear_tally full v word mask found tallied some_stake inside fits apart =
    let credit : ℕ = get_or v.credits word 0 in
    let credit_fits : credit < 2 ^ 64 = tallied.fit word in
    let took_le : taken found mask ≤ found = and_le_l found _ in
    let taken_fits : taken found mask < 2 ^ 64 = omega arith in
    let grown : ℕ = bit_or credit (taken found mask) in
    let grown_fits : grown < 2 ^ 64 = or_lt 64 credit (taken found mask) credit_fits taken_fits in
    let counts : sum_by count_ones (set v.credits word grown) + count_ones credit ≡ sum_by count_ones v.credits + count_ones grown = sum_by-set count_ones v.credits word grown 0 inside in
    let parts : count_ones grown ≡ count_ones credit + count_ones (taken found mask) = ones_added credit (taken found mask) credit_fits taken_fits grown_fits apart in
    let before : v.count ≡ sum_by count_ones v.credits = tallied.counted in
    record {
      loads = tallied.loads;
      no_loads = tallied.no_loads;
      fit = λ k. by_place (λ (x : ℕ). x < 2 ^ 64) v.credits word k grown 0 inside (λ same. grown_fits) (λ differs. tallied.fit k);
      counted = omega arith;
    }

pub new_tally : (full : List ℕ) (v : View) → length v.seen ≡ length full → IsTallied full (new_view v)
new_tally full v long = record {
  loads = λ h. length-replicate (length v.seen) 0 ∙ long;
  no_loads = λ h. absurd (omega arith);
  fit = λ k. by_copies (λ (x : ℕ). x < 2 ^ 64) (length v.seen) 0 0 k (pow_pos 64) (pow_pos 64);
  counted = sym (none_of_copies count_ones (length v.seen) 0 none_bits);
}

pub sums_length : (xs ys : List ℕ) → length (sums xs ys) ≡ length xs
sums_length [] ys = refl
sums_length (x ∷ xs) [] = refl
sums_length (x ∷ xs) (y ∷ ys) = ap suc (sums_length xs ys)

-- two lists of words that share no bit
pub counts_united : (xs ys : List ℕ) → length xs ≡ length ys → ((k : ℕ) → get_or xs k 0 < 2 ^ 64) → ((k : ℕ) → get_or ys k 0 < 2 ^ 64)
    → ((k place : ℕ) → place < 64 → bit_at (get_or xs k 0) place + bit_at (get_or ys k 0) place ≤ 1) → sum_by count_ones (united xs ys) ≡ sum_by count_ones xs + sum_by count_ones ys
counts_united [] [] long p q apart = refl
counts_united [] (y ∷ ys) long p q apart = absurd (omega arith)
counts_united (x ∷ xs) [] long p q apart = absurd (omega arith)
counts_united (x ∷ xs) (y ∷ ys) long p q apart =
    let x_fits : x < 2 ^ 64 = p 0 in
    let y_fits : y < 2 ^ 64 = q 0 in
    let here : count_ones (bit_or x y) ≡ count_ones x + count_ones y = ones_added x y x_fits y_fits (or_lt 64 x y x_fits y_fits) (apart 0) in
    let rest = counts_united xs ys (omega arith) (λ k. p (suc k)) (λ k. q (suc k)) (λ k. apart (suc k)) in
    let a = sum_by-cons count_ones (bit_or x y) (united xs ys) in
    let b = sum_by-cons count_ones x xs in
    let c = sum_by-cons count_ones y ys in
    omega arith

pub both_tally : (full : List ℕ) (v w : View) → IsTallied full v → IsTallied full w → 0 < v.stake → length v.credits ≡ length w.credits
    → ((k place : ℕ) → place < 64 → bit_at (get_or v.credits k 0) place + bit_at (get_or w.credits k 0) place ≤ 1) → IsTallied full (both_views v w)
both_tally full v w p q some_stake long apart =
    let united_counts = counts_united v.credits w.credits long p.fit q.fit apart in
    let a : v.count ≡ sum_by count_ones v.credits = p.counted in
    let b : w.count ≡ sum_by count_ones w.credits = q.counted in
    record {
      loads = λ h. sums_length v.loads w.loads ∙ p.loads some_stake;
      no_loads = λ h. absurd (omega arith);
      fit = λ k. subst (λ (x : ℕ). x < 2 ^ 64) (sym (united_at v.credits w.credits k long)) (or_lt 64 (get_or v.credits k 0) (get_or w.credits k 0) (p.fit k) (q.fit k));
      counted = omega arith;
    }
