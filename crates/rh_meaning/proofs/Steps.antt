-- What the functions that put terms into a list tell each other.
use Rattle.std.proofs.Common.{ℕ, zero, suc, ◌≡◌, ◌<◌, ◌≤◌, ◌+◌, Bool, true, List, [], ◌∷◌, length, Result, Ok, Err, refl, ap, sym, subst, ◌∙◌, arith}
use Rattle.std.specs.Prelude.{IfOk}
use Rattle.std.proofs.lemmas.Bool.{and_parts}
use Rattle.rh_rule.specs.declared.rule.RuleBase.{RuleBase}
use Rattle.rh_rule.specs.declared.rule.RuleBase.TheVariants.{Meta, Num, Wild}
use Rattle.rh_rule.specs.declared.schema.Kind.{Kind}
use Rattle.rh_rule.specs.declared.schema.Kind.TheVariants.{Var, Const}
use Rattle.rh_rule.specs.declared.schema.MeaningBase.{MeaningBase}
use Rattle.rh_rule.specs.declared.schema.MeaningBase.TheVariants.{Param as AParam}
use Rattle.rh_rule.specs.declared.schema.Param.{Param}
use Rattle.rh_rule.specs.Kinds.{args_fit, fits_place}
use Rattle.rh_rule.specs.Params.{kind_of}
use Rattle.rh_term.specs.declared.term.Term.{Term}
use Rattle.rh_term.specs.Term.{IsAdded, IsTermList, is_at}
use Rattle.rh_meaning.specs.Atoms.{IsPut, arg_tree}
use Rattle.rh_meaning.specs.Literal.{operand, value_tree}
use Rattle.rh_meaning.specs.Meaning.{arg_at, meaning_operand}
use Rattle.rh_meaning.specs.Tree.{Extends, Tree, Leaf, place_of, with_term}
use Rattle.rh_meaning.proofs.ParamKinds.{constant_kind, variable_kind}
use Rattle.rh_meaning.proofs.Places.{extends_itself, place_found, with_term_few, with_term_has}
use Rattle.rh_meaning.proofs.Sorted.{added_term, at_longer}

pub ok_with : {T E : Type 0} (P Q : T → Type 0) (result : Result T E) → ((value : T) → P value → Q value) → IfOk result P → IfOk result Q
ok_with P Q (Ok value) turn told = turn value told
ok_with P Q (Err fault) turn told = told

pub same_extends : (old new : List Term) → new ≡ old → Extends old new
same_extends old new same = subst (Extends old) (sym same) (extends_itself old)

-- what is at a place stays there where the list grows
pub stays_at : (test : Term → Bool) (old new : List Term) (place : ℕ) → Extends old new → is_at test old place ≡ true → is_at test new place ≡ true
stays_at test old new place grown there = subst (λ terms. is_at test terms place ≡ true) (sym grown.is) (at_longer test old grown.more place there)

-- a term that the list of the code has taken
pub added_put : (old new : List Term) (term : Term) (place : ℕ) → IsTermList new → IsAdded old new term place → IsPut old new (Leaf term) place
added_put old new term place list added =
    let is : new ≡ with_term old term = added_term old new term place list added in
    let within : place_of new term < length new = subst (λ terms. place_of terms term < length terms) (sym is) (with_term_has old term).1 in
    record { is = is; here = list.different place (place_of new term) term added.stands (place_found new term within) }

pub added_few : (old new : List Term) (term : Term) (place : ℕ) → IsPut old new (Leaf term) place → length new ≤ length old + 1
added_few old new term place put = subst (λ terms. length terms ≤ length old + 1) (sym put.is) (with_term_few old term)

-- ---- arguments

by_place : (params : List Param) (store : Tree) (kind : Kind) (arg : RuleBase) → fits_place params kind arg ≡ true → operand params store arg ≡ arg_tree kind store arg
by_place params store Var (Meta meta) fit = ap (value_tree store meta) (variable_kind params meta fit)
by_place params store Const (Meta meta) fit = ap (value_tree store meta) (constant_kind params meta fit)
by_place params store kind (Num number) fit = refl
by_place params store kind Wild fit = refl

-- an argument that fits has the kind of its parameter
pub operand_is : (params places : List Param) (args : List RuleBase) (param : ℕ) (store : Tree) → param < length places → args_fit params places args ≡ true
    → operand params store (arg_at args param) ≡ arg_tree (kind_of places param) store (arg_at args param)
operand_is params [] args param store below fit = absurd (omega (arith, below))
operand_is params (place ∷ places) [] param store below fit = refl
operand_is params (place ∷ places) (arg ∷ args) zero store below fit = by_place params store place.kind arg (and_parts _ _ fit).0
operand_is params (place ∷ places) (arg ∷ args) (suc param) store below fit = operand_is params places args param store (omega (arith, below)) (and_parts _ _ fit).1

-- a parameter, whose argument was put into the list by the parameter's kind
pub operand_put : (old new : List Term) (params places : List Param) (args : List RuleBase) (param : ℕ) (store : Tree) (place : ℕ) (kind : Kind) (arg : RuleBase) (base : MeaningBase)
    → kind ≡ kind_of places param → arg ≡ arg_at args param → base ≡ AParam param → param < length places → args_fit params places args ≡ true
    → IsPut old new (arg_tree kind store arg) place → IsPut old new (meaning_operand params args store base) place
operand_put old new params places args param store place kind arg base kind_is arg_is is below fit put =
    subst (λ b. IsPut old new (meaning_operand params args store b) place) (sym is)
    (subst (λ tree. IsPut old new tree place) (ap (λ k. arg_tree k store arg) kind_is ∙ ap (arg_tree (kind_of places param) store) arg_is ∙ sym (operand_is params places args param store below fit)) put)
