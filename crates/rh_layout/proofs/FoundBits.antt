-- The bit of a fact, as a layout has it.
use Rattle.std.proofs.Common.{ℕ, suc, ◌≡◌, ◌≢◌, ◌+◌, ◌*◌, ◌<◌, ◌≤◌, List, length, take, Option, Some, None, ap, sym, ◌∙◌, subst, arith}
use Rattle.std.specs.Prelude.{IfNone, IfSome, slice_get}
use Rattle.std.proofs.lemmas.Option.{slice_get_within, same_Some}
use Rattle.rh_il.specs.declared.program.Edge.{Edge}
use Rattle.rh_il.specs.declared.program.Proc.{Proc}
use Rattle.rh_il.specs.Flow.{edges_of}
use Rattle.rh_list.proofs.AtPlace.{read_at}
use Rattle.rh_rule.specs.declared.schema.Schema.{Schema}
use Rattle.rh_domain.specs.declared.domain.Domain.{Domain}
use Rattle.rh_domain.specs.declared.fact.GroundFact.{GroundFact}
use Rattle.rh_layout.specs.declared.laid.LaidProc.{LaidProc}
use Rattle.rh_layout.specs.declared.layout.Layout.{Layout}
use Rattle.rh_layout.specs.Bits.{count_on, width_of, word_count}
use Rattle.rh_domain.specs.Count.{fact_count}
use Rattle.rh_domain.specs.Facts.{facts_of, facts_over}
use Rattle.rh_layout.specs.Layout.{IsBitOn, IsLaidProc, IsLayoutOf}
use Rattle.rh_layout.proofs.EdgeWords.{front_words, next_words}

module _ (schemas : List Schema) (procs : List Proc) (layout : Layout) (place : ℕ) (laid : LaidProc) where
  -- the procedure that a part of the layout is on
  pub record IsPartOn : Type 0 where
    pub proc : Proc
    pub proc_at : slice_get procs place ≡ Some proc
    pub part : IsLaidProc schemas proc (word_count schemas (take place procs)) laid
    pub room : laid.first_word + length laid.edges * laid.width ≤ 2097152
    pub within : fact_count laid.domain schemas ≤ 65536

  pub part_on : IsLayoutOf schemas procs layout → slice_get layout.procs place ≡ Some laid → IsPartOn
  part_on is read =
      let inside = slice_get_within layout.procs place laid read in
      let size = is.length_is in
      let proc = read_at procs place (omega (arith, inside, size)) in
      let part = is.laid place proc.0 laid proc.1 read in
      let next = next_words schemas procs place proc.0 proc.1 in
      let front = front_words schemas procs (suc place) in
      let few = is.few_words in
      let first = part.first_is in
      let words : length laid.edges * laid.width ≡ length (edges_of proc.0) * width_of (count_on schemas proc.0) =
      ap (λ (edges : List Edge). length edges * laid.width) part.edges_are ∙ ap (λ w. length (edges_of proc.0) * w) part.width_is in
      record {
        proc = proc.0;
        proc_at = proc.1;
        part = part;
        room = omega (arith, next, front, few, first, words);
        within = subst (λ (d : Domain). fact_count d schemas ≤ 65536) (sym part.domain_is) part.few_facts;
      }

  module _ (at : IsPartOn) (edge : ℕ) (fact : GroundFact) where
    -- the bit with the number of the fact on the edge
    abbrev HasNumber : ℕ → Type 0
    HasNumber bit = (number : ℕ) × (slice_get (facts_over laid.domain schemas) number ≡ Some fact) × (bit ≡ 64 * (laid.first_word + edge * laid.width) + number)

    is_bit : (bit : ℕ) → edge < length laid.edges → HasNumber bit → IsBitOn schemas procs place edge fact bit
    is_bit bit below is =
        let on = read_at (edges_of at.proc) edge (subst (λ (edges : List Edge). edge < length edges) at.part.edges_are below) in
        record {
          shape = at.proc;
          shape_at = at.proc_at;
          on = on.0;
          on_at = on.1;
          is = record {
            proc = at.proc;
            edge = edge;
            number = is.0;
            proc_at = at.proc_at;
            edge_at = on.1;
            fact_at = ap (λ (d : Domain). slice_get (facts_over d schemas) is.0) (sym at.part.domain_is) ∙ is.1;
            bit_is = is.2 ∙ ap (λ first. 64 * (first + edge * laid.width) + is.0) at.part.first_is
                ∙ ap (λ width. 64 * (word_count schemas (take place procs) + edge * width) + is.0) at.part.width_is;
          };
        }

    pub bit_found : (result : Option ℕ) → IfSome result (λ bit. edge < length laid.edges) → IfSome result HasNumber → IfSome result (IsBitOn schemas procs place edge fact)
    bit_found None below is = tt
    bit_found (Some bit) below is = is_bit bit below is

    pub bit_none : (result : Option ℕ) → IfNone result (edge < length laid.edges → (number : ℕ) → slice_get (facts_over laid.domain schemas) number ≢ Some fact)
        → IfNone result ((bit : ℕ) → IsBitOn schemas procs place edge fact bit → ⊥)
    bit_none (Some bit) none = tt
    bit_none None none = λ bit on.
        let shape : on.shape ≡ at.proc = same_Some on.shape at.proc (sym on.shape_at ∙ at.proc_at) in
        let proc : on.is.proc ≡ at.proc = same_Some on.is.proc at.proc (sym on.is.proc_at ∙ at.proc_at) in
        let edges : edges_of on.shape ≡ laid.edges = ap edges_of shape ∙ sym at.part.edges_are in
        none (subst (λ (list : List Edge). edge < length list) edges (slice_get_within (edges_of on.shape) edge on.on on.on_at)) on.is.number
        (ap (λ (d : Domain). slice_get (facts_over d schemas) on.is.number) at.part.domain_is ∙ ap (λ (p : Proc). slice_get (facts_of schemas p) on.is.number) (sym proc) ∙ on.is.fact_at)
