-- A bit is that of one fact, a fact has one bit, and the full words have the bits of all facts and no others.
use Rattle.std.proofs.Common.{ℕ, ◌≡◌, ◌+◌, ◌-◌, ◌*◌, ◌/◌, ◌%◌, ◌<◌, min, true, List, length, get_or, take, Some, None, ⊎_elim, ap, sym, ◌∙◌, arith, eq-eqb, eqb-true}
use Rattle.std.specs.Int.{bit_at}
use Rattle.std.specs.Prelude.{slice_get, slice_index}
use Rattle.std.proofs.lemmas.Bool.{cases_lt}
use Rattle.std.proofs.lemmas.Nat.Bits.{bit_at-zero, bit_at_ones, bit_at_ones_above}
use Rattle.std.proofs.lemmas.List.{get_or_past}
use Rattle.std.proofs.lemmas.Option.{get_or_from_slice_get, slice_get_within, same_Some}
use Rattle.rh_il.specs.declared.program.Edge.{Edge}
use Rattle.rh_il.specs.declared.program.Proc.{Proc}
use Rattle.rh_il.specs.Flow.{edges_of}
use Rattle.rh_list.proofs.AtPlace.{read_at}
use Rattle.rh_rule.specs.declared.schema.Schema.{Schema}
use Rattle.rh_domain.specs.declared.fact.FactAt.{FactAt}
use Rattle.rh_domain.specs.declared.fact.GroundFact.{GroundFact}
use Rattle.rh_domain.specs.Binding.{domain_of}
use Rattle.rh_domain.specs.Facts.{facts_of}
use Rattle.rh_layout.specs.Bits.{IsBitOf, count_on, full_word, full_words, is_full_at, word_count}
use Rattle.rh_layout.proofs.EdgeWords.{IsWordAt, Stands, full_at, one_place, stands, width_in, word_below, words_counted}
use Rattle.rh_domain.proofs.FactNumbers.{facts_counted}
use Rattle.rh_layout.proofs.FactsApart.{facts_apart}
use Rattle.rh_layout.proofs.FlowEdges.{edges_apart}

-- the ones of a full word are at the places of facts
one_at : (count within place : ℕ) → place < 64 → 64 * within + place < count → bit_at (full_word count within) place ≡ 1
one_at count within place low below = bit_at_ones (min 64 (count - 64 * within)) place (omega arith)

one_of : (count within place : ℕ) → place < 64 → bit_at (full_word count within) place ≡ 1 → 64 * within + place < count
one_of count within place low is =
    ⊎_elim (λ below. (let less : place < min 64 (count - 64 * within) = below in omega arith))
    (λ past. let none = bit_at_ones_above (min 64 (count - 64 * within)) place past in absurd (omega (arith, none, is)))
    (cases_lt place (min 64 (count - 64 * within)))

module _ (schemas : List Schema) where
  fact_total : (proc : Proc) → length (facts_of schemas proc) ≡ count_on schemas proc
  fact_total proc = facts_counted (domain_of proc) 0 schemas

  number_low : (proc : Proc) (number : ℕ) (fact : GroundFact) → slice_get (facts_of schemas proc) number ≡ Some fact → number < count_on schemas proc
  number_low proc number fact read =
      let inside = slice_get_within (facts_of schemas proc) number fact read in
      let size = fact_total proc in omega (arith, inside, size)

  module _ (procs : List Proc) where
    -- the word of a fact's bit
    word_of_bit : (bit : ℕ) (fact : FactAt) (is : IsBitOf schemas procs bit fact) → IsWordAt schemas procs (bit / 64) fact.proc is.proc is.edge (is.number / 64) fact.edge
    word_of_bit bit fact is =
        let low = number_low is.proc is.number fact.fact is.fact_at in
        let whole = is.bit_is in
        record { proc_at = is.proc_at; edge_at = is.edge_at; below = omega (arith, low); word_is = omega (arith, whole) }

    place_of_bit : (bit : ℕ) (fact : FactAt) (is : IsBitOf schemas procs bit fact) → bit % 64 ≡ is.number % 64
    place_of_bit bit fact is = let whole = is.bit_is in omega (arith, whole)

    -- a bit is that of one fact
    pub one_fact : (bit : ℕ) (fact other : FactAt) → IsBitOf schemas procs bit fact → IsBitOf schemas procs bit other → fact ≡ other
    one_fact bit fact other one two =
        let same = one_place schemas procs (bit / 64) fact.proc other.proc one.proc two.proc one.edge (one.number / 64) two.edge (two.number / 64) fact.edge other.edge (word_of_bit bit fact one) (word_of_bit bit other two) in
        let number : one.number ≡ two.number = (let left = place_of_bit bit fact one in let right = place_of_bit bit other two in let high = same.withins in omega (arith, left, right, high)) in
        let edges : fact.edge ≡ other.edge =
        same_Some fact.edge other.edge (sym one.edge_at ∙ ap (λ (p : Proc). slice_get (edges_of p) one.edge) same.procs ∙ ap (slice_get (edges_of two.proc)) same.numbers ∙ two.edge_at) in
        let facts : fact.fact ≡ other.fact =
        same_Some fact.fact other.fact (sym one.fact_at ∙ ap (λ (p : Proc). slice_get (facts_of schemas p) one.number) same.procs ∙ ap (slice_get (facts_of schemas two.proc)) number ∙ two.fact_at) in
        λ i. record { proc = same.places i; edge = edges i; fact = facts i }

    -- a fact has one bit
    pub one_bit : (bit other : ℕ) (fact : FactAt) → IsBitOf schemas procs bit fact → IsBitOf schemas procs other fact → bit ≡ other
    one_bit bit other fact one two =
        let same : one.proc ≡ two.proc = same_Some one.proc two.proc (sym one.proc_at ∙ two.proc_at) in
        let edge = edges_apart two.proc one.edge two.edge fact.edge (ap (λ (p : Proc). slice_get (edges_of p) one.edge) (sym same) ∙ one.edge_at) two.edge_at in
        let number = facts_apart two.proc schemas one.number two.number fact.fact (ap (λ (p : Proc). slice_get (facts_of schemas p) one.number) (sym same) ∙ one.fact_at) two.fact_at in
        let before = word_count schemas (take fact.proc procs) in
        one.bit_is ∙ ap (λ (p : Proc). 64 * (before + one.edge * width_in schemas p) + one.number) same
        ∙ ap (λ e. 64 * (before + e * width_in schemas two.proc) + one.number) edge ∙ ap (λ n. 64 * (before + two.edge * width_in schemas two.proc) + n) number ∙ sym two.bit_is

    -- the fact at a place of a word
    pub bit_at_place : (bit place : ℕ) (proc : Proc) (number within : ℕ) (edge : Edge) (fact : GroundFact) → IsWordAt schemas procs (bit / 64) place proc number within edge
        → slice_get (facts_of schemas proc) (64 * within + bit % 64) ≡ Some fact → IsBitOf schemas procs bit (record { proc = place; edge = edge; fact = fact })
    bit_at_place bit place proc number within edge fact is_at read =
        let word = is_at.word_is in
        record { proc = proc; edge = number; number = 64 * within + bit % 64; proc_at = is_at.proc_at; edge_at = is_at.edge_at; fact_at = read; bit_is = omega (arith, word) }

    pub none_at_place : (bit place : ℕ) (proc : Proc) (number within : ℕ) (edge : Edge) → IsWordAt schemas procs (bit / 64) place proc number within edge
        → slice_get (facts_of schemas proc) (64 * within + bit % 64) ≡ None → (fact : FactAt) → IsBitOf schemas procs bit fact → ⊥
    none_at_place bit place proc number within edge is_at none fact is =
        let same = one_place schemas procs (bit / 64) fact.proc place is.proc proc is.edge (is.number / 64) number within fact.edge edge (word_of_bit bit fact is) is_at in
        let number_is : is.number ≡ 64 * within + bit % 64 = (let low = place_of_bit bit fact is in let high = same.withins in omega (arith, low, high)) in
        let there : Some fact.fact ≡ None =
        sym is.fact_at ∙ ap (λ (p : Proc). slice_get (facts_of schemas p) is.number) same.procs ∙ ap (slice_get (facts_of schemas proc)) number_is ∙ none in
        absurd cc

    pub none_past : (bit : ℕ) (fact : FactAt) → IsBitOf schemas procs bit fact → bit / 64 < word_count schemas procs
    none_past bit fact is = word_below schemas procs (bit / 64) fact.proc is.proc is.edge (is.number / 64) fact.edge (word_of_bit bit fact is)

    -- the bit of a fact stands in the full words
    pub facts_full : (bit : ℕ) (fact : FactAt) → IsBitOf schemas procs bit fact → is_full_at schemas procs bit ≡ true
    facts_full bit fact is =
        let word = full_word (count_on schemas is.proc) (is.number / 64) in
        let read = get_or_from_slice_get (full_words schemas procs) (bit / 64) word 0 (full_at schemas procs (bit / 64) fact.proc is.proc is.edge (is.number / 64) fact.edge (word_of_bit bit fact is)) in
        let place = place_of_bit bit fact is in
        let low = number_low is.proc is.number fact.fact is.fact_at in
        let one = one_at (count_on schemas is.proc) (is.number / 64) (bit % 64) (omega arith) (omega (arith, place, low)) in
        eq-eqb (bit_at (slice_index (full_words schemas procs) (bit / 64)) (bit % 64)) 1 (ap (λ w. bit_at w (bit % 64)) read ∙ one)

    -- and each bit there is that of a fact
    fact_there : (bit : ℕ) → bit_at (get_or (full_words schemas procs) (bit / 64) 0) (bit % 64) ≡ 1 → Stands schemas procs (bit / 64) → (fact : FactAt) × IsBitOf schemas procs bit fact
    fact_there bit is stands =
        let word = full_word (count_on schemas stands.proc) stands.within in
        let read = get_or_from_slice_get (full_words schemas procs) (bit / 64) word 0 (full_at schemas procs (bit / 64) stands.place stands.proc stands.number stands.within stands.edge stands.is_at) in
        let below = one_of (count_on schemas stands.proc) stands.within (bit % 64) (omega arith) (ap (λ w. bit_at w (bit % 64)) (sym read) ∙ is) in
        let size = fact_total stands.proc in
        let found = read_at (facts_of schemas stands.proc) (64 * stands.within + bit % 64) (omega (arith, below, size)) in
        (record { proc = stands.place; edge = stands.edge; fact = found.0 }, bit_at_place bit stands.place stands.proc stands.number stands.within stands.edge found.0 stands.is_at found.1)

    pub full_facts : (bit : ℕ) → is_full_at schemas procs bit ≡ true → (fact : FactAt) × IsBitOf schemas procs bit fact
    full_facts bit is =
        let one : bit_at (get_or (full_words schemas procs) (bit / 64) 0) (bit % 64) ≡ 1 = eqb-true (bit_at (slice_index (full_words schemas procs) (bit / 64)) (bit % 64)) 1 is in
        ⊎_elim (λ below. fact_there bit one (stands schemas procs (bit / 64) below))
        (λ past.
        let size = words_counted schemas procs in
        let none : get_or (full_words schemas procs) (bit / 64) 0 ≡ 0 = get_or_past (full_words schemas procs) (bit / 64) 0 (omega (arith, past, size)) in
        let zero_bit : bit_at (get_or (full_words schemas procs) (bit / 64) 0) (bit % 64) ≡ 0 = ap (λ w. bit_at w (bit % 64)) none ∙ bit_at-zero (bit % 64) in
        absurd (omega (arith, one, zero_bit)))
        (cases_lt (bit / 64) (word_count schemas procs))
