-- Where the words of edges stand.
use Rattle.std.proofs.Common.{ℕ, zero, suc, ◌≡◌, ◌+◌, ◌*◌, ◌<◌, ◌≤◌, List, [], ◌∷◌, ◌++◌, length, take, Some, refl, ap, sym, ◌∙◌, subst, arith}
use Rattle.std.specs.List.{range_with_len}
use Rattle.std.specs.Option.{option_map}
use Rattle.std.specs.Prelude.{slice_get}
use Rattle.std.proofs.Math.ListN.{length-append}
use Rattle.std.proofs.Math.Nat.{mul_comm}
use Rattle.std.proofs.lemmas.List.{length-map}
use Rattle.std.proofs.lemmas.List.FromFn.{length-range_with_len}
use Rattle.std.proofs.lemmas.Nat.{mul-add-lt, same_from_place}
use Rattle.std.proofs.lemmas.Option.{slice_get-map, slice_get_within, same_Some}
use Rattle.rh_il.specs.declared.program.Edge.{Edge}
use Rattle.rh_il.specs.declared.program.Proc.{Proc}
use Rattle.rh_il.specs.Flow.{edges_of}
use Rattle.rh_list.proofs.AtPlace.{read_at}
use Rattle.rh_rule.specs.declared.schema.Schema.{Schema}
use Rattle.rh_layout.specs.Bits.{count_on, full_edge, full_proc, full_word, full_words, width_of, word_count}
use Rattle.rh_domain.proofs.Numbered.{range_at}
use Rattle.rh_domain.proofs.Pieces.{IsPart, even_length, even_read, even_start, part_of, part_read, same_part}

-- the words of one edge
pub edge_width : (count : ℕ) → length (full_edge count) ≡ width_of count
edge_width count = length-map (range_with_len 0 (width_of count)) (full_word count) ∙ length-range_with_len 0 (width_of count)

edge_word_at : (count within : ℕ) → within < width_of count → slice_get (full_edge count) within ≡ Some (full_word count within)
edge_word_at count within below = slice_get-map (full_word count) (range_with_len 0 (width_of count)) within ∙ ap (option_map (full_word count)) (range_at (width_of count) within below)

edge_word_of : (count within word : ℕ) → slice_get (full_edge count) within ≡ Some word → (within < width_of count) × (word ≡ full_word count within)
edge_word_of count within word read =
    let below : within < width_of count = (let inside = slice_get_within (full_edge count) within word read in let size = edge_width count in omega (arith, inside, size)) in
    (below, same_Some word (full_word count within) (sym read ∙ edge_word_at count within below))

module _ (schemas : List Schema) where
  abbrev pub width_in : Proc → ℕ
  width_in proc = width_of (count_on schemas proc)

  abbrev pub edge_of : Proc → Edge → List ℕ
  edge_of proc edge = full_edge (count_on schemas proc)

  each_width : (proc : Proc) (edge : Edge) → length (edge_of proc edge) ≡ width_in proc
  each_width proc edge = edge_width (count_on schemas proc)

  pub proc_width : (proc : Proc) → length (full_proc schemas proc) ≡ length (edges_of proc) * width_in proc
  proc_width proc = even_length (edge_of proc) (edges_of proc) (width_in proc) (each_width proc)

  -- there are as many full words as words
  pub words_counted : (procs : List Proc) → length (full_words schemas procs) ≡ word_count schemas procs
  words_counted [] = refl
  words_counted (proc ∷ procs) =
      let size : length (full_proc schemas proc ++ full_words schemas procs) ≡ length (full_proc schemas proc) + length (full_words schemas procs) = length-append (full_proc schemas proc) (full_words schemas procs) in
      let here = proc_width proc in
      let rest = words_counted procs in
      let added : word_count schemas (proc ∷ procs) ≡ length (edges_of proc) * width_in proc + word_count schemas procs = refl in
      omega (arith, size, here, rest, added)

  -- those of one procedure more
  pub next_words : (procs : List Proc) (place : ℕ) (proc : Proc) → slice_get procs place ≡ Some proc
      → word_count schemas (take (suc place) procs) ≡ word_count schemas (take place procs) + length (edges_of proc) * width_in proc
  next_words [] place proc at = absurd cc
  next_words (first ∷ procs) zero proc at =
      let added : word_count schemas (first ∷ []) ≡ length (edges_of first) * width_in first + 0 = refl in
      let is : length (edges_of first) * width_in first ≡ length (edges_of proc) * width_in proc = ap (λ (p : Proc). length (edges_of p) * width_in p) (same_Some first proc at) in
      omega (arith, added, is)
  next_words (first ∷ procs) (suc place) proc at =
      let rest = next_words procs place proc at in
      let more : word_count schemas (first ∷ take (suc place) procs) ≡ length (edges_of first) * width_in first + word_count schemas (take (suc place) procs) = refl in
      let fewer : word_count schemas (first ∷ take place procs) ≡ length (edges_of first) * width_in first + word_count schemas (take place procs) = refl in
      omega (arith, rest, more, fewer)

  -- a front has no more
  pub front_words : (procs : List Proc) (place : ℕ) → word_count schemas (take place procs) ≤ word_count schemas procs
  front_words procs zero = omega arith
  front_words [] (suc place) = omega arith
  front_words (first ∷ procs) (suc place) =
      let rest = front_words procs place in
      let fewer : word_count schemas (first ∷ take place procs) ≡ length (edges_of first) * width_in first + word_count schemas (take place procs) = refl in
      let more : word_count schemas (first ∷ procs) ≡ length (edges_of first) * width_in first + word_count schemas procs = refl in
      omega (arith, rest, fewer, more)

  -- where a word stands: a procedure, an edge of it, and a word of the edge
  pub record IsWordAt (procs : List Proc) (word place : ℕ) (proc : Proc) (number within : ℕ) (edge : Edge) : Type 0 where
    pub proc_at : slice_get procs place ≡ Some proc
    pub edge_at : slice_get (edges_of proc) number ≡ Some edge
    pub below : within < width_in proc
    pub word_is : word ≡ word_count schemas (take place procs) + (number * width_in proc + within)

  -- the word is one of its procedure's
  pub within_proc : (procs : List Proc) (word place : ℕ) (proc : Proc) (number within : ℕ) (edge : Edge) → IsWordAt procs word place proc number within edge
      → number * width_in proc + within < length (edges_of proc) * width_in proc
  within_proc procs word place proc number within edge stands =
      subst (λ size. number * width_in proc + within < size) (mul_comm (width_in proc) (length (edges_of proc)))
      (mul-add-lt number (width_in proc) within (length (edges_of proc)) (slice_get_within (edges_of proc) number edge stands.edge_at) stands.below)

  -- it stands at one place
  pub record IsSamePlace (place other_place number other_number within other_within : ℕ) (proc other_proc : Proc) : Type 0 where
    pub places : place ≡ other_place
    pub procs : proc ≡ other_proc
    pub numbers : number ≡ other_number
    pub withins : within ≡ other_within

  pub one_place : (procs : List Proc) (word place other_place : ℕ) (proc other_proc : Proc) (number within other_number other_within : ℕ) (edge other_edge : Edge)
      → IsWordAt procs word place proc number within edge → IsWordAt procs word other_place other_proc other_number other_within other_edge
      → IsSamePlace place other_place number other_number within other_within proc other_proc
  one_place procs word place other_place proc other_proc number within other_number other_within edge other_edge one two =
      let here = within_proc procs word place proc number within edge one in
      let there = within_proc procs word other_place other_proc other_number other_within other_edge two in
      let size = proc_width proc in
      let other_size = proc_width other_proc in
      let start = words_counted (take place procs) in
      let other_start = words_counted (take other_place procs) in
      let is = one.word_is in
      let also = two.word_is in
      let same = same_part (full_proc schemas) procs place (number * width_in proc + within) other_place (other_number * width_in other_proc + other_within) proc other_proc one.proc_at two.proc_at
      (omega (arith, here, size)) (omega (arith, there, other_size)) (omega (arith, start, other_start, is, also)) in
      let same_proc : proc ≡ other_proc = same_Some proc other_proc (sym one.proc_at ∙ ap (slice_get procs) same.0 ∙ two.proc_at) in
      let widths : width_in proc ≡ width_in other_proc = ap width_in same_proc in
      let below : other_within < width_in proc = (let low = two.below in omega (arith, low, widths)) in
      let inner : number * width_in proc + within ≡ other_number * width_in proc + other_within = same.1 ∙ ap (λ w. other_number * w + other_within) (sym widths) in
      let digits = same_from_place number within other_number other_within (width_in proc) one.below below inner in
      record { places = same.0; procs = same_proc; numbers = digits.0; withins = digits.1 }

  -- the full word there
  pub full_at : (procs : List Proc) (word place : ℕ) (proc : Proc) (number within : ℕ) (edge : Edge) → IsWordAt procs word place proc number within edge
      → slice_get (full_words schemas procs) word ≡ Some (full_word (count_on schemas proc) within)
  full_at procs word place proc number within edge stands =
      let start = words_counted (take place procs) in
      let is = stands.word_is in
      let same : word ≡ length (full_words schemas (take place procs)) + (number * width_in proc + within) = omega (arith, start, is) in
      ap (slice_get (full_words schemas procs)) same
      ∙ part_read (full_proc schemas) procs place (number * width_in proc + within) proc (full_word (count_on schemas proc) within) stands.proc_at
      (even_read (edge_of proc) (edges_of proc) (width_in proc) number within edge (full_word (count_on schemas proc) within) (each_width proc) stands.edge_at (edge_word_at (count_on schemas proc) within stands.below))

  -- each word stands somewhere
  pub record Stands (procs : List Proc) (word : ℕ) : Type 0 where
    pub place : ℕ
    pub proc : Proc
    pub number : ℕ
    pub within : ℕ
    pub edge : Edge
    pub is_at : IsWordAt procs word place proc number within edge

  stands_at : (procs : List Proc) (word full : ℕ) → slice_get (full_words schemas procs) word ≡ Some full → Stands procs word
  stands_at procs word full read =
      let outer : IsPart (full_proc schemas) procs word full = part_of (full_proc schemas) procs word full read in
      let inner : IsPart (edge_of outer.item) (edges_of outer.item) outer.within full = part_of (edge_of outer.item) (edges_of outer.item) outer.within full outer.read in
      let here = edge_word_of (count_on schemas outer.item) inner.within full inner.read in
      let begins = even_start (edge_of outer.item) (edges_of outer.item) (width_in outer.item) inner.place (each_width outer.item)
      (let inside = slice_get_within (edges_of outer.item) inner.place inner.item inner.item_at in omega (arith, inside)) in
      let start = words_counted (take outer.place procs) in
      let is = outer.number_is in
      let also = inner.number_is in
      record {
        place = outer.place;
        proc = outer.item;
        number = inner.place;
        within = inner.within;
        edge = inner.item;
        is_at = record { proc_at = outer.item_at; edge_at = inner.item_at; below = here.0; word_is = omega (arith, start, begins, is, also) };
      }

  pub stands : (procs : List Proc) (word : ℕ) → word < word_count schemas procs → Stands procs word
  stands procs word below =
      let size = words_counted procs in
      let found = read_at (full_words schemas procs) word (omega (arith, below, size)) in
      stands_at procs word found.0 found.1

  -- and below the count
  pub word_below : (procs : List Proc) (word place : ℕ) (proc : Proc) (number within : ℕ) (edge : Edge) → IsWordAt procs word place proc number within edge → word < word_count schemas procs
  word_below procs word place proc number within edge is_at =
      let inside = slice_get_within (full_words schemas procs) word (full_word (count_on schemas proc) within) (full_at procs word place proc number within edge is_at) in
      let size = words_counted procs in omega (arith, inside, size)
