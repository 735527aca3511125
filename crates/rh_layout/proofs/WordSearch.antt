-- The procedure of a word is the first one that ends after it, or there is none.
use Rattle.std.proofs.Common.{ℕ, suc, ◌≡◌, ◌<◌, ◌≤◌, Bool, true, false, cond, List, [], ◌∷◌, length, get_or, take, Some, None, refl, ap, sym, ◌∙◌, subst, arith, ⊎_elim}
use Rattle.std.specs.List.{position}
use Rattle.std.specs.List.Sorted.{IsNonDecreasingBy, IsPartitionPoint}
use Rattle.std.specs.Prelude.{nat_lt}
use Rattle.std.proofs.lemmas.Bool.{cases_lt, lt-ltb}
use Rattle.std.proofs.lemmas.List.{get_or_default, take-take}
use Rattle.std.proofs.lemmas.List.Sums.{position_or_len_is}
use Rattle.std.proofs.lemmas.Option.{slice_get-get_or}
use Rattle.rh_il.specs.declared.program.Proc.{Proc}
use Rattle.rh_list.proofs.AtPlace.{read_at}
use Rattle.rh_rule.specs.declared.schema.Schema.{Schema}
use Rattle.rh_layout.specs.declared.laid.LaidProc.{LaidProc}
use Rattle.rh_layout.specs.declared.layout.Layout.{Layout}
use Rattle.rh_layout.specs.Bits.{word_count}
use Rattle.rh_layout.specs.Layout.{IsLayoutOf, has_word}
use Rattle.rh_layout.proofs.EdgeWords.{front_words, next_words}

module _ {X : Type 0} (p : X → Bool) where
  first_at : (xs : List X) (i : ℕ) (d : X) → i < length xs → ((k : ℕ) → k < i → p (get_or xs k d) ≡ false) → p (get_or xs i d) ≡ true → position p xs ≡ Some i
  first_at xs i d below fails passes =
      ap (λ n. cond (nat_lt n (length xs)) (Some n) None) (position_or_len_is p xs i d (omega (arith, below)) fails (λ inside. passes))
      ∙ ap (λ b. cond b (Some i) None) (lt-ltb i (length xs) below)

  none_at : (xs : List X) → ((k : ℕ) (d : X) → k < length xs → p (get_or xs k d) ≡ false) → position p xs ≡ None
  none_at [] fails = refl
  none_at (x ∷ xs) fails =
      let at = position_or_len_is p (x ∷ xs) (suc (length xs)) x (omega arith) (λ k below. fails k x below) (λ inside. absurd (omega (arith, inside))) in
      grind (arith, at)

module _ (word : ℕ) where
  ended : (laid : LaidProc) → laid.next_word ≤ word → has_word word laid ≡ false
  ended laid low = grind (arith, low)

  begins_later : (laid : LaidProc) → word < laid.first_word → has_word word laid ≡ false
  begins_later laid high = grind (arith, high)

  lacked : (laid : LaidProc) → word < laid.next_word → has_word word laid ≡ false → word < laid.first_word
  lacked laid below lacks = grind (arith, below, lacks)

module _ (schemas : List Schema) (procs : List Proc) (layout : Layout) (is : IsLayoutOf schemas procs layout) where
  -- where the words of the procedure at a place begin and end
  record IsBetween (place : ℕ) (laid : LaidProc) : Type 0 where
    begins : laid.first_word ≡ word_count schemas (take place procs)
    ends : laid.next_word ≡ word_count schemas (take (suc place) procs)

  between : (place : ℕ) (d : LaidProc) → place < length layout.procs → IsBetween place (get_or layout.procs place d)
  between place d below =
      let size = is.length_is in
      let proc = read_at procs place (omega (arith, below, size)) in
      let part = is.laid place proc.0 (get_or layout.procs place d) proc.1 (slice_get-get_or layout.procs place d below) in
      let next = next_words schemas procs place proc.0 proc.1 in
      let first = part.first_is in
      let last = part.next_is in
      record { begins = first; ends = omega (arith, next, first, last) }

  fronts_rise : (i j : ℕ) → i ≤ j → word_count schemas (take i procs) ≤ word_count schemas (take j procs)
  fronts_rise i j le = subst (λ front. word_count schemas front ≤ word_count schemas (take j procs)) (take-take i j procs le) (front_words schemas (take j procs) i)

  begins_rise : IsNonDecreasingBy (λ (laid : LaidProc). laid.first_word) layout.procs
  begins_rise i j d le below =
      let one = (between i d (omega (arith, le, below))).begins in
      let two = (between j d below).begins in
      let rise = fronts_rise i j le in
      omega (arith, one, two, rise)

  pub ends_rise : IsNonDecreasingBy (λ (laid : LaidProc). laid.next_word) layout.procs
  ends_rise i j d le below =
      let one = (between i d (omega (arith, le, below))).ends in
      let two = (between j d below).ends in
      let rise = fronts_rise (suc i) (suc j) (omega (arith, le)) in
      omega (arith, one, two, rise)

  module _ (word place : ℕ) (point : IsPartitionPoint (λ (laid : LaidProc). laid.next_word ≤ word) (λ (laid : LaidProc). word < laid.next_word) layout.procs place) where
    before : (k : ℕ) (d : LaidProc) → k < place → has_word word (get_or layout.procs k d) ≡ false
    before k d below = ended word (get_or layout.procs k d) (point.0 k d (omega arith) below)

    -- all procedures end before the word
    pub past_all : length layout.procs ≤ place → position (has_word word) layout.procs ≡ None
    past_all whole = none_at (has_word word) layout.procs (λ k d below. before k d (omega (arith, below, whole)))

    module _ (laid : LaidProc) (below : place < length layout.procs) (read : laid ≡ get_or layout.procs place laid) where
      -- the first that ends after the word has it
      pub found_there : has_word word laid ≡ true → position (has_word word) layout.procs ≡ Some place
      found_there has = first_at (has_word word) layout.procs place laid below (λ k less. before k laid less) (ap (has_word word) (sym read) ∙ has)

      -- it begins after the word, as all later ones
      pub in_none : has_word word laid ≡ false → position (has_word word) layout.procs ≡ None
      in_none lacks = none_at (has_word word) layout.procs (λ k d inside.
          ⊎_elim (λ (less : k < place). before k d less) (λ (from : place ≤ k). later k d from inside) (cases_lt k place))
        where
          later : (k : ℕ) (d : LaidProc) → place ≤ k → k < length layout.procs → has_word word (get_or layout.procs k d) ≡ false
          later k d from inside =
              let ends = subst (λ (l : LaidProc). word < l.next_word) (sym read) (point.1 place laid (omega arith) below) in
              let high = lacked word laid ends lacks in
              let same = ap (λ (l : LaidProc). l.first_word) read in
              let rise = subst (λ (l : LaidProc). laid.first_word ≤ l.first_word) (get_or_default layout.procs k laid d inside)
              (subst (λ n. n ≤ (get_or layout.procs k laid).first_word) (sym same) (begins_rise place k laid from inside)) in
              begins_later word (get_or layout.procs k d) (omega (arith, high, rise))
