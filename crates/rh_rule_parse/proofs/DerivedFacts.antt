-- The words of facts are derived.
use Rattle.std.proofs.Common.{List, [], ◌∷◌, ◌++◌, refl}
use Rattle.rh_grammar.specs.declared.grammar.Symbol.{Symbol}
use Rattle.rh_grammar.specs.declared.grammar.Symbol.TheVariants.{Token, Rule}
use Rattle.rh_rule_source.specs.declared.word.Word.{Word}
use Rattle.rh_rule_source.specs.declared.word.Word.TheVariants.{Fixed}
use Rattle.rh_rule_source.specs.declared.source.SourceOperation.{SourceOperation}
use Rattle.rh_rule_source.specs.declared.source.SourceParam.{SourceParam}
use Rattle.rh_rule_source.specs.declared.source.SourceTerm.{SourceTerm}
use Rattle.rh_rule_source.specs.declared.source.SourceTerm.TheVariants.{Plain as PlainTerm, Address as AddressTerm, Deref, Compute as ComputedTerm}
use Rattle.rh_rule_source.specs.declared.source.SourceAtom.{SourceAtom}
use Rattle.rh_rule_source.specs.declared.source.SourceAtom.TheVariants.{IsNumber, IsPointer, Unaliased, Compare}
use Rattle.rh_rule_source.specs.declared.source.SourceFact.{SourceFact}
use Rattle.rh_rule_source.specs.Grammar.{productions, COMMA, AND, CLOSE_PAREN, SEMICOLON, MEANS, OPEN_PAREN, mbase, op, param, params, mterm, atom, atoms, fact}
use Rattle.rh_rule_source.specs.Source.{base_words, op_word, operation_words, computed_words, relation_word, param_words, params_words, term_words, bracketed_words, atom_words, atoms_words, fact_words}
use Rattle.rh_rule_source.proofs.SourceInRange.{IsFilled, OperationInRange, TermInRange, AtomInRange, FactInRange}
use Rattle.rh_rule_parse.proofs.DerivedParts.{Derived, next, by, regrouped, base_derived, op_derived, relation_derived, param_derived}
use Rattle.rh_rule_parse.proofs.DerivedLists.{separated_derived, all_hold}
use Rattle.rh_rule_parse.proofs.Lists.{params_separated, atoms_separated}

-- `b op c`
pub operation_derived : (o : SourceOperation) (symbols : List Symbol) (rest : List Word) → OperationInRange o → Derived symbols rest → Derived (Rule mbase ∷ Rule op ∷ Rule mbase ∷ symbols) (operation_words o ++ rest)
operation_derived o symbols rest in_range d =
    regrouped (base_words o.left) (op_word o.op ∷ base_words o.right) rest
    (base_derived o.left in_range.0 (op_derived o.op (base_derived o.right in_range.1 d)))

-- `(b op c)`
pub computed_derived : (o : SourceOperation) (symbols : List Symbol) (rest : List Word) → OperationInRange o → Derived symbols rest → Derived (Token OPEN_PAREN ∷ Rule mbase ∷ Rule op ∷ Rule mbase ∷ Token CLOSE_PAREN ∷ symbols) (computed_words o ++ rest)
computed_derived o symbols rest in_range d =
    next (Fixed OPEN_PAREN)
    (regrouped (operation_words o) (Fixed CLOSE_PAREN ∷ []) rest
    (operation_derived o (Token CLOSE_PAREN ∷ symbols) (Fixed CLOSE_PAREN ∷ rest) in_range (next (Fixed CLOSE_PAREN) d)))

-- at least one parameter
pub params_derived : (ps : List SourceParam) (symbols : List Symbol) (rest : List Word) → IsFilled ps → Derived symbols rest → Derived (Rule param ∷ Rule params ∷ symbols) (params_words ps ++ rest)
params_derived ps symbols rest filled d =
    separated_derived (λ (p : SourceParam). Unit {0}) param_words param params COMMA 0 params_separated (λ p α r in_range e. param_derived p e) ps symbols rest filled (all_hold ps) d

term_derived : (t : SourceTerm) (symbols : List Symbol) (rest : List Word) → TermInRange t → Derived symbols rest → Derived (Rule mterm ∷ symbols) (term_words t ++ rest)
unfolding productions
term_derived (PlainTerm base) symbols rest in_range d = by 3 refl (base_derived base in_range d)
term_derived (AddressTerm name) symbols rest in_range d = by 0 refl (next _ (next _ d))
term_derived (Deref name) symbols rest in_range d = by 1 refl (next _ (next _ d))
term_derived (ComputedTerm o) symbols rest in_range d = by 2 refl (computed_derived o symbols rest in_range d)

bracketed_derived : (t : SourceTerm) (symbols : List Symbol) (rest : List Word) → TermInRange t → Derived symbols rest → Derived (Token OPEN_PAREN ∷ Rule mterm ∷ Token CLOSE_PAREN ∷ symbols) (bracketed_words t ++ rest)
bracketed_derived t symbols rest in_range d =
    next (Fixed OPEN_PAREN)
    (regrouped (term_words t) (Fixed CLOSE_PAREN ∷ []) rest
    (term_derived t (Token CLOSE_PAREN ∷ symbols) (Fixed CLOSE_PAREN ∷ rest) in_range (next (Fixed CLOSE_PAREN) d)))

atom_derived : (a : SourceAtom) (symbols : List Symbol) (rest : List Word) → AtomInRange a → Derived symbols rest → Derived (Rule atom ∷ symbols) (atom_words a ++ rest)
unfolding productions
atom_derived (IsNumber t) symbols rest in_range d = by 0 refl (next _ (bracketed_derived t symbols rest in_range d))
atom_derived (IsPointer t) symbols rest in_range d = by 1 refl (next _ (bracketed_derived t symbols rest in_range d))
atom_derived (Unaliased name) symbols rest in_range d = by 2 refl (next _ (next _ (next _ (next _ d))))
atom_derived (Compare left r right) symbols rest in_range d =
    by 3 refl
    (regrouped (term_words left) (relation_word r ∷ term_words right) rest
    (term_derived left _ _ in_range.0 (relation_derived r (term_derived right _ _ in_range.1 d))))

pub fact_derived : (f : SourceFact) (symbols : List Symbol) (rest : List Word) → FactInRange f → Derived symbols rest → Derived (Rule fact ∷ symbols) (fact_words f ++ rest)
unfolding productions
fact_derived f symbols rest in_range d =
    let end = next (Fixed SEMICOLON) d in
    let meaning = separated_derived AtomInRange atom_words atom atoms AND 0 atoms_separated atom_derived f.atoms (Token SEMICOLON ∷ symbols) (Fixed SEMICOLON ∷ rest) in_range.some_atoms in_range.atoms end in
    let behind = regrouped (atoms_words f.atoms) (Fixed SEMICOLON ∷ []) rest meaning in
    let closed = next (Fixed CLOSE_PAREN) (next (Fixed MEANS) behind) in
    let given = params_derived f.params _ _ in_range.some_params closed in
    by 0 refl (next _ (next _ (next _ (regrouped (params_words f.params) (Fixed CLOSE_PAREN ∷ Fixed MEANS ∷ (atoms_words f.atoms ++ Fixed SEMICOLON ∷ [])) rest given))))
