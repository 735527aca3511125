-- Which procedure, which edge and which of its words a word of a layout is.
use Rattle.std.proofs.Common.{ℕ, zero, suc, ◌≡◌, ◌+◌, ◌-◌, ◌*◌, ◌/◌, ◌%◌, ◌<◌, ◌≤◌, Bool, true, List, length, get_or, take, Some, None, refl, ap, sym, ◌∙◌, arith, ⊎_elim}
use Rattle.std.specs.List.{list_any, position}
use Rattle.std.specs.Prelude.{nat_le, nat_lt, slice_get, slice_index}
use Rattle.std.proofs.Math.Nat.{mul_comm}
use Rattle.std.proofs.lemmas.Bool.{and_parts, cases_lt, leb-true, ltb-true}
use Rattle.std.proofs.lemmas.List.{get_or_past}
use Rattle.std.proofs.lemmas.List.Folds.{list_any_at}
use Rattle.std.proofs.lemmas.List.Quantifiers.{position-Some}
use Rattle.std.proofs.lemmas.Nat.{div-add-mod', div_below, mod_below}
use Rattle.std.proofs.lemmas.Option.{get_or_from_slice_get, slice_get_read, slice_get_within}
use Rattle.rh_il.specs.declared.program.Edge.{Edge}
use Rattle.rh_il.specs.declared.program.Proc.{Proc}
use Rattle.rh_il.specs.Flow.{edges_of}
use Rattle.rh_il.proofs.Passed.{placed_some}
use Rattle.rh_list.proofs.AtPlace.{read_at}
use Rattle.rh_rule.specs.declared.schema.Schema.{Schema}
use Rattle.rh_layout.specs.declared.laid.LaidProc.{LaidProc}
use Rattle.rh_layout.specs.declared.layout.Layout.{Layout}
use Rattle.rh_layout.specs.Bits.{count_on, full_word, full_words, width_of, word_count}
use Rattle.rh_layout.specs.Layout.{IsLaidProc, IsLayoutOf, edge_with, has_word, place_in_edge}
use Rattle.rh_layout.proofs.EdgeWords.{IsWordAt, full_at, Stands, stands, width_in, within_proc, words_counted}

any_at : {X : Type 0} (p : X → Bool) (xs : List X) (k : ℕ) (x : X) → slice_get xs k ≡ Some x → p x ≡ true → list_any p xs ≡ true
any_at p xs k x read passes = list_any_at p xs k x (slice_get_within xs k x read) (ap p (get_or_from_slice_get xs k x x read) ∙ passes)

has_it : (word : ℕ) (laid : LaidProc) → laid.first_word ≤ word → word < laid.next_word → has_word word laid ≡ true
has_it word laid from below = grind (arith, from, below)

-- a number within so many rows of one width, by its row and what is left
pub record AreDigits (number first width rows : ℕ) : Type 0 where
  pub wide : 0 < width
  pub row : (number - first) / width < rows
  pub column : (number - first) % width < width
  pub whole : number ≡ first + ((number - first) / width * width + (number - first) % width)

digits : (number first width rows : ℕ) → first ≤ number → number < first + rows * width → AreDigits number first width rows
digits number first zero rows from below = let none : rows * 0 ≡ 0 = omega arith in absurd (omega (arith, none, from, below))
digits number first (suc width) rows from below =
    let whole = div-add-mod' (number - first) (suc width) in
    let turned = mul_comm rows (suc width) in
    record {
      wide = omega arith;
      row = div_below (number - first) (suc width) rows (omega arith) (omega (arith, from, below));
      column = mod_below (number - first) (suc width) (omega arith);
      whole = omega (arith, whole, from);
    }

module _ (schemas : List Schema) (procs : List Proc) (layout : Layout) (word : ℕ) where
  -- a word of a procedure, as the procedure's part of the layout has it
  pub record IsIn (place : ℕ) (laid : LaidProc) : Type 0 where
    pub proc : Proc
    pub proc_at : slice_get procs place ≡ Some proc
    pub part : IsLaidProc schemas proc (word_count schemas (take place procs)) laid
    pub from : laid.first_word ≤ word
    pub below : word < laid.next_word
    pub wide : 0 < laid.width
    pub narrow : laid.width ≤ 1024
    pub edge : Edge
    pub edge_at : slice_get laid.edges (edge_with laid word) ≡ Some edge
    pub is_at : IsWordAt schemas procs word place proc (edge_with laid word) (place_in_edge laid word) edge

  is_in : (place : ℕ) (proc : Proc) (laid : LaidProc) → slice_get procs place ≡ Some proc → IsLaidProc schemas proc (word_count schemas (take place procs)) laid
      → laid.first_word ≤ word → word < laid.next_word → IsIn place laid
  is_in place proc laid proc_at part from below =
      let rows : length (edges_of proc) * width_of (count_on schemas proc) ≡ length (edges_of proc) * laid.width = ap (λ w. length (edges_of proc) * w) (sym part.width_is) in
      let first = part.first_is in
      let next = part.next_is in
      let parts = digits word laid.first_word laid.width (length (edges_of proc)) from (omega (arith, below, first, next, rows)) in
      let there = read_at (edges_of proc) (edge_with laid word) parts.row in
      let column = parts.column in
      let width = part.width_is in
      let whole = parts.whole in
      let inner : edge_with laid word * laid.width ≡ edge_with laid word * width_in schemas proc = ap (λ w. edge_with laid word * w) width in
      record {
        proc = proc;
        proc_at = proc_at;
        part = part;
        from = from;
        below = below;
        wide = parts.wide;
        narrow = (let few = part.few_facts in omega (arith, few, width));
        edge = there.0;
        edge_at = ap (λ edges. slice_get edges (edge_with laid word)) part.edges_are ∙ there.1;
        is_at = record { proc_at = proc_at; edge_at = there.1; below = omega (arith, column, width); word_is = omega (arith, whole, inner, first) };
      }

  module _ (is : IsLayoutOf schemas procs layout) where
    -- the procedure that was found has the word
    pub found : (place : ℕ) (laid : LaidProc) → position (has_word word) layout.procs ≡ Some place → laid ≡ get_or layout.procs place laid → IsIn place laid
    found place laid here read =
        let first = position-Some (has_word word) layout.procs place laid here in
        let has = and_parts (nat_le laid.first_word word) (nat_lt word laid.next_word) (ap (has_word word) read ∙ first.1) in
        let inside = first.0 in
        let size = is.length_is in
        let proc = read_at procs place (omega (arith, inside, size)) in
        let at = slice_get_read layout.procs (length layout.procs) place laid refl inside read in
        is_in place proc.0 laid proc.1 (is.laid place proc.0 laid proc.1 at) (leb-true laid.first_word word has.0) (ltb-true word laid.next_word has.1)

    -- where none was found there is no such word
    pub not_found : position (has_word word) layout.procs ≡ None → word_count schemas procs ≤ word
    not_found none = ⊎_elim (λ below. absurd (clash (stands schemas procs word below))) (λ past. past) (cases_lt word (word_count schemas procs))
      where
        clash : Stands schemas procs word → ⊥
        clash at =
            let inside = slice_get_within procs at.place at.proc at.is_at.proc_at in
            let size = is.length_is in
            let there = read_at layout.procs at.place (omega (arith, inside, size)) in
            let part = is.laid at.place at.proc there.0 at.is_at.proc_at there.1 in
            let first = part.first_is in
            let next = part.next_is in
            let word_is = at.is_at.word_is in
            let low = within_proc schemas procs word at.place at.proc at.number at.within at.edge at.is_at in
            let has : has_word word there.0 ≡ true = has_it word there.0 (omega (arith, first, word_is)) (omega (arith, first, next, word_is, low)) in
            placed_some (has_word word) layout.procs (any_at (has_word word) layout.procs at.place there.0 there.1 has) none

    -- the full word is as it is found
    pub found_full : (place : ℕ) (laid : LaidProc) → position (has_word word) layout.procs ≡ Some place → laid ≡ get_or layout.procs place laid
        → full_word laid.facts (place_in_edge laid word) ≡ slice_index (full_words schemas procs) word
    found_full place laid here read =
        let at = found place laid here read in
        let within = place_in_edge laid word in
        ap (λ n. full_word n within) at.part.facts_is
        ∙ sym (get_or_from_slice_get (full_words schemas procs) word (full_word (count_on schemas at.proc) within) 0
        (full_at schemas procs word place at.proc (edge_with laid word) within at.edge at.is_at))

    pub past_full : position (has_word word) layout.procs ≡ None → 0 ≡ slice_index (full_words schemas procs) word
    past_full none =
        let past = not_found none in
        let size = words_counted schemas procs in
        sym (get_or_past (full_words schemas procs) word 0 (omega (arith, past, size)))
