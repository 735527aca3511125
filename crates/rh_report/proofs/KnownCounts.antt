-- How many facts of an edge, of a procedure and of a program are known.
use Rattle.std.proofs.Common.{ℕ, zero, suc, ◌≡◌, ◌+◌, ◌*◌, ◌<◌, ◌≤◌, ◌&&◌, List, [], ◌∷◌, ◌++◌, length, take, Some, refl, ap, sym, ◌∙◌, arith}
use Rattle.std.proofs.Math.Nat.{suc-mul}
use Rattle.std.proofs.lemmas.List.{append-nil, length-append, take_all, take_more}
use Rattle.std.proofs.lemmas.List.Concat.{flat_map-append}
use Rattle.std.proofs.lemmas.List.Elements.{filter-append}
use Rattle.std.proofs.lemmas.Option.{get_or_from_slice_get}
use Rattle.std.specs.List.{flat_map}
use Rattle.std.specs.Prelude.{bit_and, count_ones, filter, slice_get, slice_index}
use Rattle.rh_il.specs.declared.program.Edge.{Edge}
use Rattle.rh_il.specs.declared.program.Proc.{Proc}
use Rattle.rh_il.specs.Flow.{edges_of}
use Rattle.rh_list.proofs.AtPlace.{read_at}
use Rattle.rh_rule.specs.declared.schema.Schema.{Schema}
use Rattle.rh_domain.specs.declared.fact.FactAt.{FactAt}
use Rattle.rh_domain.specs.declared.fact.GroundFact.{GroundFact}
use Rattle.rh_domain.specs.Binding.{domain_of}
use Rattle.rh_domain.specs.Facts.{Known, all_facts, facts_in, facts_of, facts_on}
use Rattle.rh_domain.proofs.FactNumbers.{facts_counted}
use Rattle.rh_layout.specs.Bits.{IsBitOf, count_on, full_word, full_words, width_of, word_count}
use Rattle.rh_layout.proofs.EdgeWords.{IsWordAt, full_at, next_words}
use Rattle.rh_rows.specs.BitRows.{bit_of}
use Rattle.rh_rows.specs.Known.{known_in}
use Rattle.rh_rows.proofs.BitNumbers.{bit_is}
use Rattle.rh_rows.proofs.ProgramFacts.{is_fact}
use Rattle.rh_system.specs.Bits.{bits_in}
use Rattle.rh_report.specs.Counts.{counted, facts_known}
use Rattle.rh_report.proofs.Counted.{counted_items, total, total_more, total_same}
use Rattle.rh_report.proofs.EdgeLines.{facts_more}
use Rattle.rh_report.proofs.WordCounts.{edge_ones, ones_at}
use Rattle.rh_report.proofs.WordLines.{stands_from}

module _ (schemas : List Schema) (procs : List Proc) (words : List ℕ) where
  abbrev known : Known
  known = known_in schemas procs words

  -- how many bits of a word stand for known facts
  abbrev pub ones_in : ℕ → ℕ
  ones_in word = count_ones (bit_and (slice_index words word) (slice_index (full_words schemas procs) word))

  -- how many of some facts are known
  abbrev known_among : List FactAt → ℕ
  known_among facts = length (filter known facts)

  joined : (front back : List FactAt) → known_among (front ++ back) ≡ known_among front + known_among back
  joined front back = ap length (filter-append known front back) ∙ length-append (filter known front) (filter known back)

  module _ (place : ℕ) (proc : Proc) (proc_at : slice_get procs place ≡ Some proc) where
    abbrev width : ℕ
    width = width_of (count_on schemas proc)

    abbrev first : ℕ
    first = word_count schemas (take place procs)

    -- ---- one edge

    module _ (number : ℕ) (edge : Edge) (edge_at : slice_get (edges_of proc) number ≡ Some edge) where
      abbrev start : ℕ
      start = first + number * width

      abbrev as_fact : GroundFact → FactAt
      as_fact fact = record { proc = place; edge = edge; fact = fact }

      known_by_bit : (k : ℕ) (fact : GroundFact) → slice_get (facts_of schemas proc) k ≡ Some fact → known (as_fact fact) ≡ stands_from words start (0 + k)
      known_by_bit k fact read =
          let begins : k ≡ 0 + k = omega arith in
          let bit : IsBitOf schemas procs (64 * start + k) (as_fact fact) = record { proc = proc; edge = number; number = k; proc_at = proc_at; edge_at = edge_at; fact_at = read; bit_is = refl } in
          ap (λ b. b && bits_in words (bit_of schemas procs (as_fact fact))) (is_fact schemas procs (as_fact fact) (64 * start + k, bit))
          ∙ ap (bits_in words) (sym (bit_is schemas procs (64 * start + k) (as_fact fact) bit)) ∙ ap (stands_from words start) begins

      full_here : (within : ℕ) → within < width → ones_in (start + within) ≡ ones_at words start (count_on schemas proc) within
      full_here within below =
          let at : IsWordAt schemas procs (start + within) place proc number within edge = record { proc_at = proc_at; edge_at = edge_at; below = below; word_is = omega arith } in
          ap (λ full. count_ones (bit_and (slice_index words (start + within)) full))
          (get_or_from_slice_get (full_words schemas procs) (start + within) (full_word (count_on schemas proc) within) 0 (full_at schemas procs (start + within) place proc number within edge at))

      edge_known : total (λ within. ones_in (start + within)) width ≡ known_among (facts_on schemas proc place edge)
      edge_known =
          let size : length (facts_of schemas proc) ≡ count_on schemas proc = facts_counted (domain_of proc) 0 schemas in
          total_same (λ within. ones_in (start + within)) (ones_at words start (count_on schemas proc)) width full_here
          ∙ edge_ones words start (count_on schemas proc) ∙ ap (counted (stands_from words start) 0) (sym size)
          ∙ sym (counted_items as_fact known (stands_from words start) (facts_of schemas proc) 0 known_by_bit)

    -- ---- the edges of a procedure

    edges_known : (number : ℕ) → number ≤ length (edges_of proc)
        → total (λ within. ones_in (first + within)) (number * width) ≡ known_among (flat_map (facts_on schemas proc place) (take number (edges_of proc)))
    edges_known zero inside = let none : 0 * width ≡ 0 = omega arith in ap (total (λ within. ones_in (first + within))) none
    edges_known (suc number) inside =
        let edges = edges_of proc in
        let there = read_at edges number (omega (arith, inside)) in
        let edge = there.0 in
        let next : suc number ≡ number + 1 = omega arith in
        let front = flat_map (facts_on schemas proc place) (take number edges) in
        let here : total (λ within. ones_in (first + (number * width + within))) width ≡ known_among (facts_on schemas proc place edge) =
        total_same (λ within. ones_in (first + (number * width + within))) (λ within. ones_in (first + number * width + within)) width
        (λ within below. let same : first + (number * width + within) ≡ first + number * width + within = omega arith in ap ones_in same)
        ∙ edge_known number edge there.1 in
        let facts : flat_map (facts_on schemas proc place) (take (suc number) edges) ≡ front ++ facts_on schemas proc place edge =
        ap (λ n. flat_map (facts_on schemas proc place) (take n edges)) next
        ∙ ap (flat_map (facts_on schemas proc place)) (take_more edges number edge (omega (arith, inside)) ∙ ap (λ e. take number edges ++ e ∷ []) (get_or_from_slice_get edges number edge edge there.1))
        ∙ flat_map-append (facts_on schemas proc place) (take number edges) (edge ∷ []) ∙ ap (λ fs. front ++ fs) (append-nil (facts_on schemas proc place edge)) in
        ap (total (λ within. ones_in (first + within))) (suc-mul number width) ∙ total_more (λ within. ones_in (first + within)) (number * width) width
        ∙ (λ i. edges_known number (omega (arith, inside)) i + here i) ∙ sym (joined front (facts_on schemas proc place edge)) ∙ ap known_among (sym facts)

    proc_known : total (λ within. ones_in (first + within)) (length (edges_of proc) * width) ≡ known_among (facts_in schemas proc place)
    proc_known =
        edges_known (length (edges_of proc)) (omega arith)
        ∙ ap (λ es. known_among (flat_map (facts_on schemas proc place) es)) (take_all (length (edges_of proc)) (edges_of proc) (omega arith))

  -- ---- the program

  procs_known : (place : ℕ) → place ≤ length procs → total ones_in (word_count schemas (take place procs)) ≡ known_among (all_facts schemas (take place procs))
  procs_known zero inside = refl
  procs_known (suc place) inside =
      let there = read_at procs place (omega (arith, inside)) in
      let proc = there.0 in
      let next : suc place ≡ place + 1 = omega arith in
      let start = word_count schemas (take place procs) in
      let size = length (edges_of proc) * width_of (count_on schemas proc) in
      ap (total ones_in) (next_words schemas procs place proc there.1) ∙ total_more ones_in start size
      ∙ (λ i. procs_known place (omega (arith, inside)) i + proc_known place proc there.1 i)
      ∙ sym (joined (all_facts schemas (take place procs)) (facts_in schemas proc place))
      ∙ ap known_among (sym (ap (λ n. all_facts schemas (take n procs)) next ∙ facts_more schemas procs place proc there.1))

  pub all_known : total ones_in (word_count schemas procs) ≡ facts_known schemas known procs
  all_known =
      let all = take_all (length procs) procs (omega arith) in
      ap (λ ps. total ones_in (word_count schemas ps)) (sym all) ∙ procs_known (length procs) (omega arith) ∙ ap (λ ps. known_among (all_facts schemas ps)) all
