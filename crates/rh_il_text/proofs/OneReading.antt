-- A text has one reading: one program or one fault.
use Rattle.std.proofs.Common.{◌≡◌, ℕ, List, Some, None, refl, sym, ap, subst, ◌∙◌}
use Rattle.std.specs.Prelude.{Option}
use Rattle.rh_text.specs.declared.token.Token.{Token}
use Rattle.rh_text.specs.declared.token.LexFault.{LexFault}
use Rattle.rh_text.specs.Pieces.{IsFirstFault}
use Rattle.rh_text.proofs.Unique.{tokens_unique, tokens_have_no_fault, one_first_fault}
use Rattle.rh_grammar.specs.Derivation.{Derivable, IsSyntaxFault}
use Rattle.rh_grammar.proofs.Faults.{one_syntax_place, derivable_has_no_fault}
use Rattle.rh_il.specs.declared.program.Proc.{Proc}
use Rattle.rh_il.specs.declared.fault.ProgFault.{ProgFault}
use Rattle.rh_il.specs.declared.fault.ProgFault.TheVariants.{Wrong, NoMemory as NoProgMemory}
use Rattle.rh_il.specs.Checks.{program_fault}
use Rattle.rh_il_text.specs.declared.fault.ReadFault.{ReadFault}
use Rattle.rh_il_text.specs.declared.fault.ReadFault.TheVariants.{Lex, Syntax, Unknown, Program, NoMemory}
use Rattle.rh_il_source.specs.declared.source.Source.{Source}
use Rattle.rh_il_source.specs.Grammar.{productions, program}
use Rattle.rh_il_source.specs.Words.{words_of, classes_of}
use Rattle.rh_il_text.specs.Known.{procs_of}
use Rattle.rh_il_text.specs.Program.{Spells, IsText, IsSyntaxAt, IsUnknownAt, IsWrong, FaultsAs, first_missing, start_of}
use Rattle.rh_il_source.proofs.OneReadingFiles.{file_words_unique}

module _ (text : List ℕ) where
  -- the procedures that a text spells
  one_source : (t u : List Token) (a b : List Source) → Spells text t a → Spells text u b → a ≡ b
  one_source t u a b first second =
      file_words_unique a b
      (sym first.spelled ∙ ap (words_of text) (tokens_unique text t u first.are_tokens second.are_tokens) ∙ second.spelled)

  pub one_program : (a b : List Proc) → IsText text a → IsText text b → a ≡ b
  one_program a b first second =
      first.told ∙ ap procs_of (one_source first.tokens second.tokens first.sources second.sources first.spells second.spells) ∙ sym second.told

  -- what spells procedures has no fault of the grammar
  spells_no_syntax : (tokens : List Token) (sources : List Source) (at : ℕ) → Spells text tokens sources → IsSyntaxAt text at → ⊥
  spells_no_syntax tokens sources at spells is =
      let same = tokens_unique text tokens is.tokens spells.are_tokens is.are_tokens in
      derivable_has_no_fault productions program (classes_of (words_of text is.tokens)) is.place
      (subst (λ (ts : List Token). Derivable productions program (classes_of (words_of text ts))) same spells.derivable) is.fault

  -- what names are missing is told by the text
  one_missing : (t u : List Token) (a b : List Source) (x y : Option ℕ) → Spells text t a → Spells text u b → first_missing a ≡ x → first_missing b ≡ y → x ≡ y
  one_missing t u a b x y first second is other = sym is ∙ ap first_missing (one_source t u a b first second) ∙ other

  one_wrong : (t u : List Token) (a b : List Source) (x y : Option ProgFault) → Spells text t a → Spells text u b → program_fault (procs_of a) ≡ x → program_fault (procs_of b) ≡ y → x ≡ y
  one_wrong t u a b x y first second is other =
      sym is ∙ ap (λ (sources : List Source). program_fault (procs_of sources)) (one_source t u a b first second) ∙ other

  -- a text of a program has no fault
  pub texts_have_no_fault : (procs : List Proc) (f : ReadFault) → IsText text procs → FaultsAs text f → f ≡ NoMemory
  texts_have_no_fault procs (Lex fault) is told = absurd (tokens_have_no_fault text is.tokens fault is.spells.are_tokens told)
  texts_have_no_fault procs (Syntax at) is told = absurd (spells_no_syntax is.tokens is.sources at is.spells told)
  texts_have_no_fault procs (Unknown at) is told =
      let e = one_missing is.tokens told.tokens is.sources told.sources None (Some told.place) is.spells told.spells is.known told.missing in absurd cc
  texts_have_no_fault procs (Program (Wrong kind proc item)) is told =
      let e = one_wrong is.tokens told.tokens is.sources told.sources None (Some (Wrong kind proc item)) is.spells told.spells (ap program_fault (sym is.told) ∙ is.passes) told.wrong in absurd cc
  texts_have_no_fault procs (Program NoProgMemory) is told = absurd told
  texts_have_no_fault procs NoMemory is told = refl

  one_syntax : (x y : ℕ) → IsSyntaxAt text x → IsSyntaxAt text y → x ≡ y
  one_syntax x y first second =
      let same = tokens_unique text first.tokens second.tokens first.are_tokens second.are_tokens in
      let moved = subst (λ (ts : List Token). IsSyntaxFault productions program (classes_of (words_of text ts)) first.place) same first.fault in
      let place = one_syntax_place productions program (classes_of (words_of text second.tokens)) first.place second.place moved second.fault in
      first.at_is ∙ ap (λ (ts : List Token). start_of text ts first.place) same ∙ ap (start_of text second.tokens) place ∙ sym second.at_is

  one_unknown : (x y : ℕ) → IsUnknownAt text x → IsUnknownAt text y → x ≡ y
  one_unknown x y first second =
      let same = tokens_unique text first.tokens second.tokens first.spells.are_tokens second.spells.are_tokens in
      let both = one_missing first.tokens second.tokens first.sources second.sources (Some first.place) (Some second.place) first.spells second.spells first.missing second.missing in
      let place : first.place ≡ second.place = cc in
      first.at_is ∙ ap (λ (ts : List Token). start_of text ts first.place) same ∙ ap (start_of text second.tokens) place ∙ sym second.at_is

  -- the text has tokens
  syntax_no_lex : (at : ℕ) (f : LexFault) → IsSyntaxAt text at → IsFirstFault text f → ⊥
  syntax_no_lex at f is = tokens_have_no_fault text is.tokens f is.are_tokens

  spells_no_lex : (tokens : List Token) (sources : List Source) (f : LexFault) → Spells text tokens sources → IsFirstFault text f → ⊥
  spells_no_lex tokens sources f spells = tokens_have_no_fault text tokens f spells.are_tokens

  unknown_no_wrong : (at : ℕ) (f : ProgFault) → IsUnknownAt text at → IsWrong text f → ⊥
  unknown_no_wrong at f unknown wrong =
      let e = one_missing unknown.tokens wrong.tokens unknown.sources wrong.sources (Some unknown.place) None unknown.spells wrong.spells unknown.missing wrong.known in cc

  -- a text has one fault
  pub one_fault : (f g : ReadFault) → FaultsAs text f → FaultsAs text g → (f ≡ NoMemory → ⊥) → (g ≡ NoMemory → ⊥) → f ≡ g
  one_fault NoMemory g first second some other = absurd (some refl)
  one_fault f NoMemory first second some other = absurd (other refl)
  one_fault (Program NoProgMemory) g first second some other = absurd first
  one_fault f (Program NoProgMemory) first second some other = absurd second
  one_fault (Lex x) (Lex y) first second some other = ap Lex (one_first_fault text x y first second)
  one_fault (Lex x) (Syntax at) first second some other = absurd (syntax_no_lex at x second first)
  one_fault (Lex x) (Unknown at) first second some other = absurd (spells_no_lex second.tokens second.sources x second.spells first)
  one_fault (Lex x) (Program (Wrong kind proc item)) first second some other = absurd (spells_no_lex second.tokens second.sources x second.spells first)
  one_fault (Syntax at) (Lex y) first second some other = absurd (syntax_no_lex at y first second)
  one_fault (Syntax at) (Syntax place) first second some other = ap Syntax (one_syntax at place first second)
  one_fault (Syntax at) (Unknown place) first second some other = absurd (spells_no_syntax second.tokens second.sources at second.spells first)
  one_fault (Syntax at) (Program (Wrong kind proc item)) first second some other = absurd (spells_no_syntax second.tokens second.sources at second.spells first)
  one_fault (Unknown at) (Lex y) first second some other = absurd (spells_no_lex first.tokens first.sources y first.spells second)
  one_fault (Unknown at) (Syntax place) first second some other = absurd (spells_no_syntax first.tokens first.sources place first.spells second)
  one_fault (Unknown at) (Unknown place) first second some other = ap Unknown (one_unknown at place first second)
  one_fault (Unknown at) (Program (Wrong kind proc item)) first second some other = absurd (unknown_no_wrong at (Wrong kind proc item) first second)
  one_fault (Program (Wrong kind proc item)) (Lex y) first second some other = absurd (spells_no_lex first.tokens first.sources y first.spells second)
  one_fault (Program (Wrong kind proc item)) (Syntax place) first second some other = absurd (spells_no_syntax first.tokens first.sources place first.spells second)
  one_fault (Program (Wrong kind proc item)) (Unknown place) first second some other = absurd (unknown_no_wrong place (Wrong kind proc item) second first)
  one_fault (Program (Wrong kind proc item)) (Program (Wrong sort place number)) first second some other =
      let both = one_wrong first.tokens second.tokens first.sources second.sources (Some (Wrong kind proc item)) (Some (Wrong sort place number)) first.spells second.spells first.wrong second.wrong in cc
