-- The lines of the known facts on an edge, on the edges of a procedure, and of a program.
use Rattle.std.proofs.Common.{ℕ, zero, suc, ◌≡◌, ◌+◌, ◌*◌, ◌<◌, ◌≤◌, ◌&&◌, List, [], ◌∷◌, ◌++◌, length, take, get_or, Option, Some, None, refl, ap, sym, ◌∙◌, arith, append_assoc}
use Rattle.std.specs.List.{enumerate_from, flat_map}
use Rattle.std.specs.Option.{option_map_or}
use Rattle.std.specs.Prelude.{filter, slice_get}
use Rattle.std.proofs.lemmas.List.{append-nil, take_all, take_more}
use Rattle.std.proofs.lemmas.List.Concat.{flat_map-append}
use Rattle.std.proofs.lemmas.List.Elements.{filter-append}
use Rattle.std.proofs.lemmas.Option.{same_Some, slice_get_past, slice_get_read}
use Rattle.rh_il.specs.declared.program.Edge.{Edge}
use Rattle.rh_il.specs.declared.program.Proc.{Proc}
use Rattle.rh_il.specs.Flow.{edges_of}
use Rattle.rh_list.proofs.AtPlace.{read_at}
use Rattle.rh_rule.specs.declared.schema.Schema.{Schema}
use Rattle.rh_domain.specs.declared.domain.Domain.{Domain}
use Rattle.rh_domain.specs.declared.fact.FactAt.{FactAt}
use Rattle.rh_domain.specs.declared.fact.GroundFact.{GroundFact}
use Rattle.rh_domain.specs.Binding.{domain_of}
use Rattle.rh_domain.specs.Facts.{Known, all_facts, facts_in, facts_of, facts_on, facts_over}
use Rattle.rh_domain.proofs.FactNumbers.{facts_counted}
use Rattle.rh_layout.specs.declared.laid.LaidProc.{LaidProc}
use Rattle.rh_layout.specs.declared.layout.Layout.{Layout}
use Rattle.rh_layout.specs.Bits.{IsBitOf, count_on, width_of, word_count}
use Rattle.rh_layout.specs.Layout.{IsLayoutOf}
use Rattle.rh_layout.proofs.EdgeWords.{front_words, next_words}
use Rattle.rh_layout.proofs.FoundFacts.{asked}
use Rattle.rh_rows.specs.BitRows.{bit_of}
use Rattle.rh_rows.specs.Known.{known_in}
use Rattle.rh_rows.proofs.BitNumbers.{bit_is}
use Rattle.rh_rows.proofs.ProgramFacts.{is_fact}
use Rattle.rh_system.specs.Bits.{bits_in}
use Rattle.rh_report.specs.FactLines.{IsPartOf, line_at, lines_of, texts_of}
use Rattle.rh_report.specs.Output.{fact_line}
use Rattle.rh_report.proofs.Texts.{texts_picked}
use Rattle.rh_report.proofs.WordLines.{stands_from}

module _ (schemas : List Schema) (procs : List Proc) where
  -- the part on a procedure of a layout
  pub part_of : (layout : Layout) (place : ℕ) (laid : LaidProc) → IsLayoutOf schemas procs layout → place < length procs → slice_get layout.procs place ≡ Some laid → IsPartOf schemas procs place laid
  part_of layout place laid is below read =
      let there = read_at procs place below in
      let proc = there.0 in
      let part = is.laid place proc laid there.1 read in
      let by = asked schemas proc (word_count schemas (take place procs)) laid part in
      let edges : length laid.edges * laid.width ≡ length (edges_of proc) * width_of (count_on schemas proc) = (λ i. length (part.edges_are i) * part.width_is i) in
      let next = next_words schemas procs place proc there.1 in
      let front = front_words schemas procs (suc place) in
      let first = part.first_is in
      let few = is.few_words in
      let few_facts = part.few_facts in
      let width = part.width_is in
      record {
        proc = proc;
        proc_at = there.1;
        part = part;
        few = is.few_schemas;
        small = by.small;
        firsts = by.firsts;
        narrow = omega (arith, few_facts, width);
        room = omega (arith, edges, next, front, first, few);
      }

  -- ---- the lines of facts, joined

  module _ (known : Known) where
    lines_joined : (front back : List FactAt) → lines_of schemas procs known (front ++ back) ≡ lines_of schemas procs known front ++ lines_of schemas procs known back
    lines_joined front back = ap (flat_map (fact_line schemas procs)) (filter-append known front back) ∙ flat_map-append (fact_line schemas procs) (filter known front) (filter known back)

    -- those of more facts
    pub lines_added : (facts more whole : List FactAt) (before out after : List ℕ) → whole ≡ facts ++ more → out ≡ before ++ lines_of schemas procs known facts → after ≡ out ++ lines_of schemas procs known more
        → after ≡ before ++ lines_of schemas procs known whole
    lines_added facts more whole before out after whole_is so_far one =
        one ∙ ap (λ t. t ++ lines_of schemas procs known more) so_far
        ∙ append_assoc before (lines_of schemas procs known facts) (lines_of schemas procs known more)
        ∙ ap (λ t. before ++ t) (sym (ap (lines_of schemas procs known) whole_is ∙ lines_joined facts more))

  -- ---- one edge

  module _ (words : List ℕ) (place : ℕ) (laid : LaidProc) (is : IsPartOf schemas procs place laid) (number : ℕ) (edge : Edge) (edge_at : slice_get laid.edges number ≡ Some edge) where
    abbrev as_fact : GroundFact → FactAt
    as_fact fact = record { proc = place; edge = edge; fact = fact }

    abbrev start : ℕ
    start = laid.first_word + number * laid.width

    abbrev facts : List GroundFact
    facts = facts_of schemas is.proc

    bit_at_number : (k : ℕ) (fact : GroundFact) → slice_get facts k ≡ Some fact → IsBitOf schemas procs (64 * start + (0 + k)) (as_fact fact)
    bit_at_number k fact read =
        let begins : 0 + k ≡ k = omega arith in
        record {
          proc = is.proc;
          edge = number;
          number = k;
          proc_at = is.proc_at;
          edge_at = ap (λ edges. slice_get edges number) (sym is.part.edges_are) ∙ edge_at;
          fact_at = read;
          bit_is = (λ i. 64 * (is.part.first_is i + number * is.part.width_is i) + begins i);
        }

    known_by_bit : (k : ℕ) (fact : GroundFact) → slice_get facts k ≡ Some fact → known_in schemas procs words (as_fact fact) ≡ stands_from words start (0 + k)
    known_by_bit k fact read =
        let bit = bit_at_number k fact read in
        ap (λ b. b && bits_in words (bit_of schemas procs (as_fact fact))) (is_fact schemas procs (as_fact fact) (64 * start + (0 + k), bit))
        ∙ ap (bits_in words) (sym (bit_is schemas procs (64 * start + (0 + k)) (as_fact fact) bit))

    line_of : (k : ℕ) (found : Option GroundFact) → slice_get facts k ≡ found → line_at schemas procs laid.domain place edge (0 + k) ≡ option_map_or (λ fact. fact_line schemas procs (as_fact fact)) found []
    line_of k found read =
        let begins : 0 + k ≡ k = omega arith in
        ap (λ (o : Option GroundFact). option_map_or (λ fact. fact_line schemas procs (as_fact fact)) o [])
        (ap (slice_get (facts_over laid.domain schemas)) begins ∙ ap (λ (d : Domain). slice_get (facts_over d schemas) k) is.part.domain_is ∙ read)

    pub edge_lines : texts_of (stands_from words start) (line_at schemas procs laid.domain place edge) 0 (64 * laid.width) ≡ lines_of schemas procs (known_in schemas procs words) (facts_on schemas is.proc place edge)
    edge_lines =
        let size : length facts ≡ count_on schemas is.proc = facts_counted (domain_of is.proc) 0 schemas in
        let width = is.part.width_is in
        sym (texts_picked as_fact (fact_line schemas procs) (known_in schemas procs words) (stands_from words start) (line_at schemas procs laid.domain place edge) facts 0 (64 * laid.width)
        (omega (arith, size, width)) known_by_bit (λ k fact read. line_of k (Some fact) read) (λ k long. line_of k None (slice_get_past facts k long)))

  -- ---- the edges of a procedure

  module _ (words : List ℕ) (place : ℕ) (laid : LaidProc) (is : IsPartOf schemas procs place laid) (edges : List Edge) (edges_are : edges ≡ laid.edges) (proc : Proc) (proc_at : slice_get procs place ≡ Some proc) where
    abbrev known : Known
    known = known_in schemas procs words

    abbrev pub facts_before : ℕ → List FactAt
    facts_before number = flat_map (facts_on schemas proc place) (take number edges)

    same_proc : is.proc ≡ proc
    same_proc = same_Some is.proc proc (sym is.proc_at ∙ proc_at)

    -- those of one edge more
    pub edge_added : (number start : ℕ) (edge : Edge) (before out after : List ℕ) → number < length edges → edge ≡ get_or edges number edge → start ≡ laid.first_word + number * laid.width
        → out ≡ before ++ lines_of schemas procs known (facts_before number)
        → after ≡ out ++ texts_of (stands_from words start) (line_at schemas procs laid.domain place edge) 0 (64 * laid.width)
        → after ≡ before ++ lines_of schemas procs known (facts_before (number + 1))
    edge_added number start edge before out after below read start_is so_far one =
        let there : slice_get edges number ≡ Some edge = slice_get_read edges (length edges) number edge refl below read in
        let at : slice_get laid.edges number ≡ Some edge = ap (λ es. slice_get es number) (sym edges_are) ∙ there in
        let here = ap (λ s. texts_of (stands_from words s) (line_at schemas procs laid.domain place edge) 0 (64 * laid.width)) start_is
        ∙ edge_lines words place laid is number edge at ∙ ap (λ (p : Proc). lines_of schemas procs known (facts_on schemas p place edge)) same_proc in
        let whole : facts_before (number + 1) ≡ facts_before number ++ facts_on schemas proc place edge =
        ap (flat_map (facts_on schemas proc place)) (take_more edges number edge below ∙ ap (λ e. take number edges ++ e ∷ []) (sym read))
        ∙ flat_map-append (facts_on schemas proc place) (take number edges) (edge ∷ [])
        ∙ ap (λ fs. facts_before number ++ fs) (append-nil (facts_on schemas proc place edge)) in
        lines_added known (facts_before number) (facts_on schemas proc place edge) (facts_before (number + 1)) before out after whole so_far (one ∙ ap (λ t. out ++ t) here)

    -- those of all edges
    pub edges_added : (number : ℕ) (before out : List ℕ) → length edges ≤ number → out ≡ before ++ lines_of schemas procs known (facts_before number) → out ≡ before ++ lines_of schemas procs known (facts_in schemas proc place)
    edges_added number before out whole so_far =
        so_far ∙ ap (λ es. before ++ lines_of schemas procs known (flat_map (facts_on schemas proc place) es))
        (take_all number edges whole ∙ edges_are ∙ is.part.edges_are ∙ ap (λ (p : Proc). edges_of p) same_proc)

  -- ---- the procedures

  abbrev facts_of_proc : ℕ × Proc → List FactAt
  facts_of_proc at = facts_in schemas at.1 at.0

  one_more : (from : ℕ) (front : List Proc) (place : ℕ) (proc : Proc) → slice_get front place ≡ Some proc
      → flat_map facts_of_proc (enumerate_from from (take (suc place) front)) ≡ flat_map facts_of_proc (enumerate_from from (take place front)) ++ facts_in schemas proc (from + place)
  one_more from [] place proc read = absurd cc
  one_more from (first ∷ front) zero proc read =
      let number : from ≡ from + 0 = omega arith in
      append-nil (facts_in schemas first from) ∙ (λ i. facts_in schemas (same_Some first proc read i) (number i))
  one_more from (first ∷ front) (suc place) proc read =
      let number : (from + 1) + place ≡ from + suc place = omega arith in
      let here = facts_in schemas first from in
      let behind = flat_map facts_of_proc (enumerate_from (from + 1) (take place front)) in
      ap (λ fs. here ++ fs) (one_more (from + 1) front place proc read ∙ ap (λ n. behind ++ facts_in schemas proc n) number)
      ∙ sym (append_assoc here behind (facts_in schemas proc (from + suc place)))

  pub facts_more : (place : ℕ) (proc : Proc) → slice_get procs place ≡ Some proc → all_facts schemas (take (place + 1) procs) ≡ all_facts schemas (take place procs) ++ facts_in schemas proc place
  facts_more place proc read =
      let next : place + 1 ≡ suc place = omega arith in
      let number : 0 + place ≡ place = omega arith in
      ap (λ n. all_facts schemas (take n procs)) next ∙ one_more 0 procs place proc read ∙ ap (λ n. all_facts schemas (take place procs) ++ facts_in schemas proc n) number
