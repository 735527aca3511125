-- The parts of a layout, one procedure after another.
use Rattle.std.proofs.Common.{ℕ, zero, suc, ◌≡◌, ◌+◌, ◌<◌, ◌≤◌, List, [], ◌∷◌, ◌++◌, length, take, Some, ◌⊎◌, ⊎_elim, refl, ap, sym, ◌∙◌, subst, arith}
use Rattle.std.specs.Prelude.{slice_get}
use Rattle.std.proofs.lemmas.List.{take_all}
use Rattle.std.proofs.lemmas.Option.{slice_get_within, same_Some}
use Rattle.rh_il.specs.declared.program.Proc.{Proc}
use Rattle.rh_il.specs.Checks.{IsProgram}
use Rattle.rh_il.proofs.Passed.{passed}
use Rattle.rh_list.specs.Each.{Each, EachBefore}
use Rattle.rh_rule.specs.declared.schema.Schema.{Schema}
use Rattle.rh_layout.specs.declared.laid.LaidProc.{LaidProc}
use Rattle.rh_layout.specs.Bits.{word_count}
use Rattle.rh_layout.specs.Layout.{AreLaid, HasFewFacts, IsLaidProc}
use Rattle.rh_layout.proofs.EdgeWords.{next_words}
use Rattle.rh_domain.proofs.Pieces.{get_side}

pub few_procs : (procs : List Proc) → IsProgram procs → length procs ≤ 256
few_procs procs program = (passed procs program.passes).few

lone : (part other : LaidProc) (k : ℕ) → slice_get (part ∷ []) k ≡ Some other → (k ≡ 0) × (part ≡ other)
lone part other zero read = (refl, same_Some part other read)
lone part other (suc k) read = absurd cc

module _ (schemas : List Schema) (procs : List Proc) where
  -- one more procedure has few facts
  pub few_more : (number : ℕ) (proc : Proc) → slice_get procs number ≡ Some proc → HasFewFacts schemas proc → EachBefore (HasFewFacts schemas) procs number → EachBefore (HasFewFacts schemas) procs (number + 1)
  few_more number proc at few before = λ k other below read.
      ⊎_elim (λ (less : k < number). before k other less read)
      (λ (same : k ≡ number). subst (HasFewFacts schemas) (same_Some proc other (sym at ∙ ap (slice_get procs) (sym same) ∙ read)) few)
      (cases k number below)
    where
      cases : (k n : ℕ) → k < n + 1 → (k < n) ⊎ (k ≡ n)
      cases k n below = grind (arith, below)

  pub few_all : (number : ℕ) → length procs ≤ number → EachBefore (HasFewFacts schemas) procs number → Each (HasFewFacts schemas) procs
  few_all number whole before = λ k proc read. before k proc (let within = slice_get_within procs k proc read in omega (arith, within, whole)) read

  -- one more part
  pub laid_more : (laid : List LaidProc) (number words : ℕ) (proc : Proc) (part : LaidProc) → length laid ≡ number → words ≡ word_count schemas (take number procs) → slice_get procs number ≡ Some proc
      → IsLaidProc schemas proc words part → AreLaid schemas procs laid → AreLaid schemas procs (laid ++ part ∷ [])
  laid_more laid number words proc part size words_are at is before = λ k other here read there.
      ⊎_elim (λ (front : slice_get laid k ≡ Some here). before k other here read front)
      (λ (back : (j : ℕ) × (k ≡ length laid + j) × (slice_get (part ∷ []) j ≡ Some here)).
      let one = lone part here back.0 back.2 in
      let place : k ≡ number = (let left = back.1 in let none = one.0 in omega (arith, left, none, size)) in
      let same : proc ≡ other = same_Some proc other (sym at ∙ ap (slice_get procs) (sym place) ∙ read) in
      subst (λ (p : LaidProc). IsLaidProc schemas other (word_count schemas (take k procs)) p) one.1
      (subst (λ (p : Proc). IsLaidProc schemas p (word_count schemas (take k procs)) part) same
      (subst (λ n. IsLaidProc schemas proc n part) (words_are ∙ ap (λ n. word_count schemas (take n procs)) (sym place)) is)))
      (get_side laid (part ∷ []) k here there)

  -- and the words up to it
  pub words_more : (number words : ℕ) (proc : Proc) (part : LaidProc) → words ≡ word_count schemas (take number procs) → slice_get procs number ≡ Some proc
      → IsLaidProc schemas proc words part → part.next_word ≡ word_count schemas (take (number + 1) procs)
  words_more number words proc part words_are at is =
      let next = next_words schemas procs number proc at in
      let here = is.next_is in
      let same : suc number ≡ number + 1 = omega arith in
      let whole : part.next_word ≡ word_count schemas (take (suc number) procs) = omega (arith, next, here, words_are) in
      whole ∙ ap (λ n. word_count schemas (take n procs)) same

  pub words_all : (number words : ℕ) → length procs ≤ number → words ≡ word_count schemas (take number procs) → words ≡ word_count schemas procs
  words_all number words whole is = is ∙ ap (word_count schemas) (take_all number procs whole)
