use Rattle.std.proofs.Common.{List, ℕ, true, ◌≡◌, ◌+◌, ◌/◌, ◌%◌, ◌^◌, count_ones, get_or, length, ap, sym, ◌∙◌, arith}
use Rattle.rh_system.specs.Bits.{bits_in}
use Rattle.rh_system.proofs.Supports.{bit_inside}
use Rattle.rh_rank.proofs.Counted.{few_numbers, number_of_bit}
use Rattle.rh_rank.proofs.numbering.Numbering.place_of.Goals as goal

-- the bit stands in the words
there : (words list : List ℕ) (bit : ℕ) → list ≡ words → true ≡ bits_in list bit → bits_in words bit ≡ true
there words list bit same is = ap (λ (l : List ℕ). bits_in l bit) (sym same) ∙ sym is

-- what is added up, over the lists themselves
summed : (words before list counts : List ℕ) (bit below : ℕ) → list ≡ words → counts ≡ before → below ≡ count_ones (get_or list (bit / 64) 0 % 2 ^ (bit % 64))
    → get_or counts (bit / 64) 0 + below ≡ get_or before (bit / 64) 0 + count_ones (get_or words (bit / 64) 0 % 2 ^ (bit % 64))
summed words before list counts bit below same_words same_counts is =
    (λ i. get_or (same_counts i) (bit / 64) 0 + (is ∙ ap (λ (l : List ℕ). count_ones (get_or l (bit / 64) 0 % 2 ^ (bit % 64))) same_words) i)

pub bounds-words-word : goal.bounds-words-word
bounds-words-word c =
    let set = there c.args.self.now.words c.as_slice-words.result.now c.args.bit c.as_slice-words.ensures.value c.if-has.ensures in
    let inside = bit_inside c.args.self.now.words c.args.bit set in
    let same = ap length c.as_slice-words.ensures.value in
    omega (arith, inside, same)

pub bounds-as_slice-word : goal.bounds-as_slice-word
bounds-as_slice-word c =
    let set = there c.args.self.now.words c.as_slice-words.result.now c.args.bit c.as_slice-words.ensures.value c.if-has.ensures in
    let inside = bit_inside c.args.self.now.words c.args.bit set in
    let many = c.args.self.now.counts.as_many in
    let same = ap length c.as_slice.ensures.value in
    omega (arith, inside, many, same)

pub overflow_add-result : goal.overflow_add-result
overflow_add-result c =
    let me = c.args.self.now in
    let set = there me.words c.as_slice-words.result.now c.args.bit c.as_slice-words.ensures.value c.if-has.ensures in
    let sum = summed me.words me.before c.as_slice-words.result.now c.as_slice.result.now c.args.bit c.ones_below-below.result c.as_slice-words.ensures.value c.as_slice.ensures.value c.ones_below-below.ensures in
    let is = number_of_bit me.words me.before me.counts c.args.bit set in
    let few = few_numbers me.words me.before me.counts c.args.bit set in
    let all = me.few in
    omega (arith, sum, is, few, all)

pub returns-then-has-clause-number : goal.returns-then-has-clause-number
returns-then-has-clause-number c =
    let me = c.args.self.now in
    let set = there me.words c.as_slice-words.result.now c.args.bit c.as_slice-words.ensures.value c.if-has.ensures in
    summed me.words me.before c.as_slice-words.result.now c.as_slice.result.now c.args.bit c.ones_below-below.result c.as_slice-words.ensures.value c.as_slice.ensures.value c.ones_below-below.ensures
    ∙ number_of_bit me.words me.before me.counts c.args.bit set
