-- Facts are spelled in one way.
use Rattle.std.proofs.Common.{◌≡◌, ℕ, ◌==◌, if◌then◌else◌, List, [], ◌∷◌, ◌++◌, true, false, refl, sym, ap, ◌∙◌, arith}
use Rattle.rh_rule.specs.declared.schema.Kind.{Kind}
use Rattle.rh_rule.specs.declared.schema.Kind.TheVariants.{Var, Const}
use Rattle.rh_rule_source.specs.declared.word.Word.{Word}
use Rattle.rh_rule_source.specs.declared.word.Word.TheVariants.{Fixed, Upper}
use Rattle.rh_rule_source.specs.declared.source.SourceBase.TheVariants.{Named, Num}
use Rattle.rh_rule_source.specs.declared.source.SourceParam.{SourceParam}
use Rattle.rh_rule_source.specs.declared.source.Relation.{Relation}
use Rattle.rh_rule_source.specs.declared.source.Relation.TheVariants.{Same as SameRelation, Differ}
use Rattle.rh_rule_source.specs.declared.source.SourceTerm.TheVariants.{Plain as PlainTerm, Address as AddressTerm, Deref, Compute as ComputedTerm}
use Rattle.rh_rule_source.specs.declared.source.SourceAtom.{SourceAtom}
use Rattle.rh_rule_source.specs.declared.source.SourceAtom.TheVariants.{IsNumber, IsPointer, Unaliased, Compare}
use Rattle.rh_rule_source.specs.declared.source.SourceFact.{SourceFact}
use Rattle.rh_rule_source.specs.Grammar.{EQUAL, SEMICOLON, COMMA, CLOSE_PAREN, AND, NUMBER_OF, POINTER, UNALIASED, VAR, MEANS}
use Rattle.rh_rule_source.specs.Source.{relation_word, kind_word, param_words, params_words, term_words, bracketed_words, atom_words, atoms_words, fact_words}
use Rattle.rh_rule_source.proofs.OneWay.{Same, OneWay, NoneBegins, class_in, first_class, first_word, other_words, one_lower, one_upper, in_turn, from_word, one_joined, one_bracketed, one_separated}
use Rattle.rh_rule_source.proofs.OneOperand.{one_term}

abbrev relation_of : ℕ → Relation
relation_of class = if class == EQUAL then SameRelation else Differ

relation_back : (relation : Relation) → relation_of (class_in (relation_word relation)) ≡ relation
relation_back SameRelation = refl
relation_back Differ = refl

pub one_relation : (a b : Relation) → relation_word a ≡ relation_word b → a ≡ b
one_relation = from_word relation_word relation_of relation_back

abbrev kind_of : ℕ → Kind
kind_of class = if class == VAR then Var else Const

kind_back : (kind : Kind) → kind_of (class_in (kind_word kind)) ≡ kind
kind_back Var = refl
kind_back Const = refl

one_param : OneWay param_words
one_param a b r s e =
    let kind = from_word kind_word kind_of kind_back a.kind b.kind (first_word _ _ _ _ e) in
    let behind : ◌≡◌ {A = List Word} (Upper a.name ∷ r) (Upper b.name ∷ s) = other_words _ _ _ _ e in
    let name = one_upper a.name b.name (first_word _ _ _ _ behind) in
    record { value = λ i. record { kind = kind i; name = name i }; rest = other_words _ _ _ _ behind }

no_kind : (kind : Kind) → Fixed CLOSE_PAREN ≡ kind_word kind → ⊥
no_kind Var e = absurd cc
no_kind Const e = absurd cc

no_param : (r : List Word) → NoneBegins param_words (Fixed CLOSE_PAREN ∷ r)
no_param r param ws e = no_kind param.kind (first_word _ _ _ _ e)

-- parameters before `)`
pub one_params : (xs ys : List SourceParam) (q q' r s : List Word) → (params_words xs ++ Fixed CLOSE_PAREN ∷ q) ++ r ≡ (params_words ys ++ Fixed CLOSE_PAREN ∷ q') ++ s → Same xs ys (q ++ r) (q' ++ s)
one_params xs ys q q' r s e =
    let params = one_separated param_words one_param (Fixed COMMA) xs ys (Fixed CLOSE_PAREN ∷ (q ++ r)) (Fixed CLOSE_PAREN ∷ (q' ++ s))
    (λ ws e. absurd cc) (λ ws e. absurd cc) (no_param (q ++ r)) (no_param (q' ++ s))
    (in_turn (params_words xs) (Fixed CLOSE_PAREN ∷ q) r (params_words ys) (Fixed CLOSE_PAREN ∷ q') s e) in
    record { value = params.value; rest = other_words _ _ _ _ params.rest }

abbrev atom_shape : SourceAtom → ℕ
atom_shape (IsNumber term) = 1
atom_shape (IsPointer term) = 2
atom_shape (Unaliased name) = 3
atom_shape (Compare left relation right) = 0

-- told by the first word; at `;` there is none
abbrev atom_begins : List Word → ℕ
atom_begins ws =
    if first_class ws == NUMBER_OF then 1
    else (if first_class ws == POINTER then 2
    else (if first_class ws == UNALIASED then 3
    else (if first_class ws == SEMICOLON then 4
    else 0)))

atom_told : (x : SourceAtom) (r : List Word) → atom_begins (atom_words x ++ r) ≡ atom_shape x
atom_told (IsNumber term) r = refl
atom_told (IsPointer term) r = refl
atom_told (Unaliased name) r = refl
atom_told (Compare (PlainTerm (Named name)) relation right) r = refl
atom_told (Compare (PlainTerm (Num true size)) relation right) r = refl
atom_told (Compare (PlainTerm (Num false size)) relation right) r = refl
atom_told (Compare (AddressTerm name) relation right) r = refl
atom_told (Compare (Deref name) relation right) r = refl
atom_told (Compare (ComputedTerm operation) relation right) r = refl

one_bracketed_term : OneWay bracketed_words
one_bracketed_term = one_bracketed term_words one_term

one_atom : OneWay atom_words
one_atom (IsNumber a) (IsNumber b) r s e =
    let term = one_bracketed_term a b r s (other_words _ _ _ _ e) in
    record { value = ap IsNumber term.value; rest = term.rest }
one_atom (IsPointer a) (IsPointer b) r s e =
    let term = one_bracketed_term a b r s (other_words _ _ _ _ e) in
    record { value = ap IsPointer term.value; rest = term.rest }
one_atom (Unaliased a) (Unaliased b) r s e = record { value = cc; rest = cc }
one_atom (Compare left relation right) (Compare left' relation' right') r s e =
    let parts = one_joined term_words relation_word term_words one_term one_relation one_term left left' relation relation' right right' r s e in
    record { value = λ i. Compare (parts.left i) (parts.middle i) (parts.right i); rest = parts.rest }
one_atom a b r s e =
    let shapes : atom_shape a ≡ atom_shape b = sym (atom_told a r) ∙ ap atom_begins e ∙ atom_told b s in
    absurd (omega arith)

shape_is_no_end : (x : SourceAtom) → atom_shape x ≡ 4 → ⊥
shape_is_no_end (IsNumber term) e = absurd (omega arith)
shape_is_no_end (IsPointer term) e = absurd (omega arith)
shape_is_no_end (Unaliased name) e = absurd (omega arith)
shape_is_no_end (Compare left relation right) e = absurd (omega arith)

no_atom : (r : List Word) → NoneBegins atom_words (Fixed SEMICOLON ∷ r)
no_atom r x ws e = shape_is_no_end x (sym (atom_told x ws) ∙ ap atom_begins (sym e))

-- atoms before `;`
one_atoms : (xs ys : List SourceAtom) (r s : List Word) → (atoms_words xs ++ Fixed SEMICOLON ∷ []) ++ r ≡ (atoms_words ys ++ Fixed SEMICOLON ∷ []) ++ s → Same xs ys r s
one_atoms xs ys r s e =
    let atoms = one_separated atom_words one_atom (Fixed AND) xs ys (Fixed SEMICOLON ∷ r) (Fixed SEMICOLON ∷ s)
    (λ ws e. absurd cc) (λ ws e. absurd cc) (no_atom r) (no_atom s)
    (in_turn (atoms_words xs) (Fixed SEMICOLON ∷ []) r (atoms_words ys) (Fixed SEMICOLON ∷ []) s e) in
    record { value = atoms.value; rest = other_words _ _ _ _ atoms.rest }

pub one_fact : OneWay fact_words
one_fact a b r s e =
    let behind = λ (f : SourceFact). atoms_words f.atoms ++ Fixed SEMICOLON ∷ [] in
    let named = other_words _ _ _ _ e in
    let name = one_lower a.name b.name (first_word _ _ _ _ named) in
    let params = one_params a.params b.params (Fixed MEANS ∷ behind a) (Fixed MEANS ∷ behind b) r s (other_words _ _ _ _ (other_words _ _ _ _ named)) in
    let atoms = one_atoms a.atoms b.atoms r s (other_words _ _ _ _ params.rest) in
    record { value = λ i. record { name = name i; params = params.value i; atoms = atoms.value i }; rest = atoms.rest }
