-- Fact schemas as they are printed.
use Rattle.std.proofs.Common.{◌≡◌, ℕ, true, ◌&&◌, List, [], ◌∷◌, ◌++◌, map, length, codes, refl, ap, ◌∙◌, append_assoc}
use Rattle.std.proofs.lemmas.Bool.{and_parts}
use Rattle.std.specs.List.{list_all, AllByRecursion}
use Rattle.rh_rule.specs.declared.schema.Param.{Param}
use Rattle.rh_rule.specs.declared.schema.MeaningTerm.{MeaningTerm}
use Rattle.rh_rule.specs.declared.schema.MeaningTerm.TheVariants.{Plain as MeaningPlain, Address as MeaningAddress, Deref as MeaningDeref, Compute as MeaningCompute}
use Rattle.rh_rule.specs.declared.schema.MeaningAtom.{MeaningAtom}
use Rattle.rh_rule.specs.declared.schema.MeaningAtom.TheVariants.{Same as SameAtom, Differ as DifferAtom, IsNumber as NumberAtom, IsPointer as PointerAtom, Unaliased as UnaliasedAtom}
use Rattle.rh_rule.specs.declared.schema.Schema.{Schema}
use Rattle.rh_rule.specs.Words.{is_proper}
use Rattle.rh_rule.specs.Numbers.{base_is_below, term_is_below, atom_is_below}
use Rattle.rh_rule_source.specs.declared.word.Word.{Word}
use Rattle.rh_rule_source.specs.declared.word.Word.TheVariants.{Fixed, Lower, Upper}
use Rattle.rh_rule_source.specs.declared.source.SourceParam.{SourceParam}
use Rattle.rh_rule_source.specs.declared.source.Relation.{Relation}
use Rattle.rh_rule_source.specs.declared.source.Relation.TheVariants.{Same, Differ}
use Rattle.rh_rule_source.specs.declared.source.SourceTerm.TheVariants.{Plain as PlainTerm, Address as AddressTerm, Deref, Compute as ComputedTerm}
use Rattle.rh_rule_source.specs.declared.source.SourceAtom.TheVariants.{IsNumber, IsPointer, Unaliased, Compare}
use Rattle.rh_rule_source.specs.Grammar.{AND, OPEN_PAREN, CLOSE_PAREN, FACT, MEANS, SEMICOLON}
use Rattle.rh_rule_source.specs.Source.{term_words, atom_words, fact_words, relation_word, params_words, atoms_words}
use Rattle.rh_rule_text.specs.Resolve.{place_of, meaning_base, meaning_term, meaning_atom, compared_atom, rule_param, metas_of, schema_of}
use Rattle.rh_rule_text.specs.Unknown.{unknown, unknown_term, unknown_atom, unknown_fact, first_of}
use Rattle.rh_rule_print.specs.Text.{term_text, atom_text, schema_text}
use Rattle.rh_rule.specs.Ranges.{TermNumbersFit, AtomNumbersFit}
use Rattle.rh_rule_source.proofs.SourceInRange.{TermInRange, AtomInRange, FactInRange, IsFilled}
use Rattle.rh_rule_print.proofs.Each.{each_passes, each_both, filled}
use Rattle.rh_rule_print.proofs.Prints.{Prints, Exactly, Always, Ends, tells, behind, fixed_behind, fixed_before, anywhere}
use Rattle.rh_rule_print.proofs.FixedTexts.{ampersand_text, star_text, same_text, differ_text, number_text, pointer_text, unaliased_text, and_text, fact_word_text, means_text, semicolon_text}
use Rattle.rh_rule_print.proofs.PrintedNames.{lower_printed}
use Rattle.rh_rule_print.proofs.Tells.{Tells, Bracketed, led_printed, bracketed_printed, related_printed, joined_printed}
use Rattle.rh_rule_print.proofs.PrintedBases.{AreMetas, names_of, meta_printed, meaning_base_printed, computed_printed, params_printed}

module _ (params : List Param) (metas : AreMetas params) where
  abbrev TellsTerm : MeaningTerm → List Word → Type 0
  TellsTerm = Tells term_words (meaning_term (names_of params)) (unknown_term (names_of params)) TermInRange

  abbrev TellsAtom : MeaningAtom → List Word → Type 0
  TellsAtom = Tells atom_words (meaning_atom (names_of params)) (unknown_atom (names_of params)) AtomInRange

  term_printed : (term : MeaningTerm) → term_is_below (length params) term ≡ true → TermNumbersFit term → Prints Ends (term_text params term) (TellsTerm term)
  term_printed (MeaningPlain base) below fits =
      tells (meaning_base_printed params metas base below fits)
      (λ w told. record { source = PlainTerm told.source; same = told.same; means = ap MeaningPlain told.means; known = told.known; in_range = told.in_range })
  term_printed (MeaningAddress param) below fits =
      tells (led_printed (λ s. Upper s ∷ []) (place_of (names_of params)) (unknown (names_of params)) (λ s. Unit) ampersand_text (meta_printed params metas param below))
      (λ w told. record { source = AddressTerm told.source; same = told.same; means = ap MeaningAddress told.means; known = told.known; in_range = tt })
  term_printed (MeaningDeref param) below fits =
      tells (led_printed (λ s. Upper s ∷ []) (place_of (names_of params)) (unknown (names_of params)) (λ s. Unit) star_text (meta_printed params metas param below))
      (λ w told. record { source = Deref told.source; same = told.same; means = ap MeaningDeref told.means; known = told.known; in_range = tt })
  term_printed (MeaningCompute op left right) below fits =
      let parts = and_parts (base_is_below (length params) left) (base_is_below (length params) right) below in
      tells
      (anywhere (computed_printed (names_of params) (meaning_base (names_of params)) left op right (meaning_base_printed params metas left parts.0 fits.0) (meaning_base_printed params metas right parts.1 fits.1)))
      (λ w told. record {
        source = ComputedTerm told.source;
        same = told.same;
        means = ap (λ parts. MeaningCompute parts.1 parts.0 parts.2) told.means;
        known = told.known;
        in_range = told.in_range;
      })

  -- two terms with a relation between them
  compared_printed : {text : List ℕ} (relation : Relation) → Prints Always text (Exactly (relation_word relation ∷ [])) → ((rest : List ℕ) → Ends (text ++ rest)) → (s t : MeaningTerm) → (term_is_below (length params) s && term_is_below (length params) t) ≡ true
      → TermNumbersFit s → TermNumbersFit t → Prints Ends (term_text params s ++ text ++ term_text params t) (TellsAtom (compared_atom relation s t))
  compared_printed relation between ends s t below first_fits second_fits =
      let parts = and_parts (term_is_below (length params) s) (term_is_below (length params) t) below in
      tells
      (related_printed term_words (meaning_term (names_of params)) (unknown_term (names_of params)) TermInRange (term_printed s parts.0 first_fits) between ends (term_printed t parts.1 second_fits))
      (λ w told. record {
        source = Compare told.source.0 relation told.source.1;
        same = told.same;
        means = ap (λ terms. compared_atom relation terms.0 terms.1) told.means;
        known = told.known;
        in_range = told.in_range;
      })

  -- a term in brackets after a word
  bracketed_term : {lead : List ℕ} {words : List Word} → Prints Always lead (Exactly words) → (t : MeaningTerm) → term_is_below (length params) t ≡ true → TermNumbersFit t
      → Prints Ends (lead ++ term_text params t ++ codes ")") (Bracketed term_words (meaning_term (names_of params)) (unknown_term (names_of params)) TermInRange words t)
  bracketed_term lead t below fits = anywhere (bracketed_printed term_words (meaning_term (names_of params)) (unknown_term (names_of params)) TermInRange lead (term_printed t below fits))

  atom_printed : (atom : MeaningAtom) → (atom_is_below (length params) atom ≡ true) × AtomNumbersFit atom → Prints Ends (atom_text params atom) (TellsAtom atom)
  atom_printed (SameAtom s t) is = compared_printed Same same_text (λ rest. refl) s t is.0 is.1.0 is.1.1
  atom_printed (DifferAtom s t) is = compared_printed Differ differ_text (λ rest. refl) s t is.0 is.1.0 is.1.1
  atom_printed (NumberAtom t) is =
      tells (bracketed_term number_text t is.0 is.1)
      (λ w told. record { source = IsNumber told.source; same = told.same; means = ap NumberAtom told.means; known = told.known; in_range = told.in_range })
  atom_printed (PointerAtom t) is =
      tells (bracketed_term pointer_text t is.0 is.1)
      (λ w told. record { source = IsPointer told.source; same = told.same; means = ap PointerAtom told.means; known = told.known; in_range = told.in_range })
  atom_printed (UnaliasedAtom param) is =
      tells (anywhere (bracketed_printed (λ s. Upper s ∷ []) (place_of (names_of params)) (unknown (names_of params)) (λ s. Unit) unaliased_text (meta_printed params metas param is.0)))
      (λ w told. record { source = Unaliased told.source; same = told.same; means = ap UnaliasedAtom told.means; known = told.known; in_range = tt })

-- ---- a schema

-- the names that the parameters of a source declare
pub metas_named : (sources : List SourceParam) (params : List Param) → map rule_param sources ≡ params → metas_of sources ≡ names_of params
metas_named sources params means = each_named sources ∙ ap names_of means
  where
    each_named : (sources : List SourceParam) → metas_of sources ≡ names_of (map rule_param sources)
    each_named [] = refl
    each_named (s ∷ ss) = ap (λ (names : List (List ℕ)). s.name.name ∷ names) (each_named ss)

-- what is asked of a schema
pub record SchemaFits (schema : Schema) : Type 0 where
  pub name : is_proper schema.name ≡ true
  pub metas : AreMetas schema.params
  pub some_params : IsFilled schema.params
  pub some_atoms : IsFilled schema.meaning
  pub below : list_all (atom_is_below (length schema.params)) schema.meaning ≡ true
  pub numbers : AllByRecursion AtomNumbersFit schema.meaning

fact_arranged : (name : Word) (params atoms : List Word) → ((((Fixed FACT ∷ name ∷ []) ++ (Fixed OPEN_PAREN ∷ (params ++ (Fixed CLOSE_PAREN ∷ [])))) ++ (Fixed MEANS ∷ [])) ++ atoms) ++ (Fixed SEMICOLON ∷ [])
    ≡ Fixed FACT ∷ name ∷ Fixed OPEN_PAREN ∷ (params ++ (Fixed CLOSE_PAREN ∷ Fixed MEANS ∷ (atoms ++ (Fixed SEMICOLON ∷ []))))
fact_arranged name params atoms = simp append_assoc

abbrev pub TellsSchema : Schema → List Word → Type 0
TellsSchema = Tells fact_words schema_of unknown_fact FactInRange

pub schema_printed : (schema : Schema) → SchemaFits schema → Prints Always (schema_text schema) (TellsSchema schema)
schema_printed schema fits =
    let names = names_of schema.params in
    let is_below = λ (atom : MeaningAtom). atom_is_below (length schema.params) atom ≡ true in
    let atoms = joined_printed atom_words (meaning_atom names) (unknown_atom names) AtomInRange (atom_text schema.params) (codes " and ") (Fixed AND) and_text (λ rest. refl)
    (λ atom. is_below atom × AtomNumbersFit atom) (atom_printed schema.params fits.metas) schema.meaning
    (each_both is_below AtomNumbersFit schema.meaning (each_passes (atom_is_below (length schema.params)) schema.meaning fits.below) fits.numbers) in
    fixed_behind semicolon_text (λ rest h. refl)
    (behind atoms (λ rest h. tt)
    (fixed_behind means_text (λ rest h. tt)
    (behind (params_printed schema.params fits.metas.proper) (λ rest h. refl)
    (fixed_before fact_word_text
    (tells (lower_printed schema.name fits.name)
    (λ v name w params u atoms.
    let same_names = metas_named params.source schema.params params.means in
    let meanings : map (meaning_atom (metas_of params.source)) atoms.source ≡ schema.meaning =
    ap (λ names. map (meaning_atom names) atoms.source) same_names ∙ atoms.means in
    record {
      source = record { name = name.0; params = params.source; atoms = atoms.source };
      same =
          (λ i. (((Fixed FACT ∷ name.1 i) ++ params.same i ++ (Fixed MEANS ∷ [])) ++ atoms.same i) ++ (Fixed SEMICOLON ∷ []))
          ∙ fact_arranged (Lower name.0) (params_words params.source) (atoms_words atoms.source);
      means = λ i. record { name = name.2 i; params = params.means i; meaning = meanings i };
      known = ap (λ names. first_of (unknown_atom names) atoms.source) same_names ∙ atoms.known;
      in_range = record {
        some_params = filled rule_param params.source schema.params params.means fits.some_params;
        some_atoms = filled (meaning_atom names) atoms.source schema.meaning atoms.means fits.some_atoms;
        atoms = atoms.in_range;
      };
    }))))))
