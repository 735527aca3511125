-- The literals of a fact over a store are true in a model exactly where the fact holds over what the store stands for.
use Rattle.std.proofs.Common.{ℕ, zero, suc, ◌≡◌, ◌<◌, Bool, true, false, not, ◌&&◌, List, [], ◌∷◌, map, length, refl, ap, ◌∙◌, arith}
use Rattle.std.specs.Bool.{beq}
use Rattle.std.specs.List.{list_all}
use Rattle.std.proofs.lemmas.Bool.{and_parts, ltb-true}
use Rattle.rh_il.specs.declared.value.Value.{Value}
use Rattle.rh_il.specs.declared.value.Value.TheVariants.{Num as ANumber, Ptr as APointer}
use Rattle.rh_il.specs.Op.{total}
use Rattle.rh_il.specs.Value.{value_eq}
use Rattle.rh_rule.specs.declared.rule.Arg.{Arg}
use Rattle.rh_rule.specs.declared.rule.Arg.TheVariants.{Var, Const}
use Rattle.rh_rule.specs.declared.rule.RuleBase.{RuleBase}
use Rattle.rh_rule.specs.declared.rule.RuleBase.TheVariants.{Meta, Num, Wild}
use Rattle.rh_rule.specs.declared.schema.Kind.{Kind}
use Rattle.rh_rule.specs.declared.schema.Kind.TheVariants.{Var as AVar, Const as AConst}
use Rattle.rh_rule.specs.declared.schema.MeaningAtom.{MeaningAtom}
use Rattle.rh_rule.specs.declared.schema.MeaningAtom.TheVariants.{Same, Differ, IsNumber, IsPointer, Unaliased}
use Rattle.rh_rule.specs.declared.schema.MeaningBase.{MeaningBase}
use Rattle.rh_rule.specs.declared.schema.MeaningBase.TheVariants.{Param as AParam, Num as ALiteral}
use Rattle.rh_rule.specs.declared.schema.MeaningTerm.{MeaningTerm}
use Rattle.rh_rule.specs.declared.schema.MeaningTerm.TheVariants.{Plain, Address, Deref, Compute}
use Rattle.rh_rule.specs.declared.schema.Param.{Param}
use Rattle.rh_rule.specs.declared.schema.Schema.{Schema}
use Rattle.rh_rule.specs.Kinds.{args_fit, atom_has_kinds, fits_place, is_var, is_var_base, is_var_kind, term_has_kinds}
use Rattle.rh_rule.specs.Numbers.{atom_is_below, base_is_below, term_is_below}
use Rattle.rh_rule.specs.Params.{kind_of}
use Rattle.rh_rule.specs.RuleFiles.{SchemaPassed}
use Rattle.rh_term.specs.Model.{Model, AValue, AStore, alike, is_number, value_of, store_of}
use Rattle.rh_term.specs.Store.{is_unheld, select}
use Rattle.rh_meaning.specs.Denotation.{denotation, is_true_in}
use Rattle.rh_meaning.specs.Holds.{arg_pointer, arg_value, atom_holds, base_meant, ground_arg, holds_over, term_meant}
use Rattle.rh_meaning.specs.Laws.{StandsFor, StandForAll}
use Rattle.rh_meaning.specs.Literal.{operand, value_tree}
use Rattle.rh_meaning.specs.Meaning.{address_at, arg_at, atom_literal, meaning_operand, meaning_tree, meta_of, schema_literals}
use Rattle.rh_meaning.specs.Tree.{Tree, Leaf}
use Rattle.rh_meaning.proofs.ParamKinds.{variable_kind}
use Rattle.rh_term.specs.declared.term.Term.TheVariants.{Addr}

-- ---- kinds

var_place : (params : List Param) (kind : Kind) (arg : RuleBase) → fits_place params kind arg ≡ true → is_var_kind kind ≡ true → is_var_base params arg ≡ true
var_place params AVar arg fit is = fit
var_place params AConst arg fit is = absurd cc

same_as_true : (b : Bool) → beq b true ≡ b
same_as_true true = refl
same_as_true false = refl

same_as_false : (b : Bool) → beq b false ≡ not b
same_as_false true = refl
same_as_false false = refl

kinds_differ : (kind : Kind) → kind ≡ AVar → kind ≡ AConst → ⊥
kinds_differ kind var const = cc

module _ (model : Model) (base : ℕ) (params : List Param) where
  -- the argument in the place of a parameter stands for the argument of the fact, and is a metavariable for a
  -- variable where the parameter is one
  record ArgIs (places : List Param) (operands : List RuleBase) (args : List Arg) (param : ℕ) : Type 0 where
    stands : StandsFor model base params (arg_at operands param) (ground_arg args param)
    variable : is_var places param ≡ true → is_var_base params (arg_at operands param) ≡ true

  arg_is : (places : List Param) (operands : List RuleBase) (args : List Arg) (param : ℕ) → param < length places → length operands ≡ length places
      → args_fit params places operands ≡ true → StandForAll model base params operands args → ArgIs places operands args param
  arg_is [] operands args param below same fit stand = absurd (omega (arith, below))
  arg_is (place ∷ places) [] args param below same fit stand = absurd (omega (arith, same))
  arg_is (place ∷ places) (o ∷ operands) [] param below same fit stand = absurd stand
  arg_is (place ∷ places) (o ∷ operands) (arg ∷ args) zero below same fit stand =
      record { stands = stand.0; variable = var_place params place.kind o (and_parts _ _ fit).0 }
  arg_is (place ∷ places) (o ∷ operands) (arg ∷ args) (suc param) below same fit stand =
      let rest = arg_is places operands args param (omega (arith, below)) (omega (arith, same)) (and_parts _ _ fit).1 stand.1 in
      record { stands = rest.stands; variable = rest.variable }

  pointer_for : (o : RuleBase) (arg : Arg) → StandsFor model base params o arg → is_var_base params o ≡ true → denotation model (Leaf (Addr (meta_of o))) ≡ AValue (arg_pointer base arg)
  pointer_for (Meta meta) (Var number) stands is = ap (λ l. AValue (APointer l)) stands.1
  pointer_for (Meta meta) (Const number) stands is = absurd (kinds_differ (kind_of params meta) (variable_kind params meta is) stands.0)
  pointer_for (Num number) arg stands is = absurd cc
  pointer_for Wild arg stands is = absurd cc

  module _ (store : Tree) (cells : List Value) (is_store : denotation model store ≡ AStore cells) where
    -- an operand over the store has the value that its argument has there
    pub value_for : (o : RuleBase) (arg : Arg) → StandsFor model base params o arg → denotation model (operand params store o) ≡ AValue (arg_value base cells arg)
    value_for (Meta meta) (Var number) stands =
        ap (λ kind. denotation model (value_tree store meta kind)) stands.0
        ∙ ap (λ d. AValue (select (store_of d) (APointer (model.location meta)))) is_store
        ∙ ap (λ l. AValue (select cells (APointer l))) stands.1
    value_for (Meta meta) (Const number) stands = ap (λ kind. denotation model (value_tree store meta kind)) stands.0 ∙ ap (λ n. AValue (ANumber n)) stands.1
    value_for (Num number) (Const other) stands = ap (λ n. AValue (ANumber n)) stands
    value_for (Num number) (Var other) stands = absurd stands
    value_for Wild arg stands = absurd stands

    module _ (places : List Param) (operands : List RuleBase) (args : List Arg) (known : (param : ℕ) → param < length places → ArgIs places operands args param) where
      pointer_meant : (param : ℕ) → param < length places → is_var places param ≡ true → denotation model (address_at operands param) ≡ AValue (arg_pointer base (ground_arg args param))
      pointer_meant param below is =
          let arg = known param below in pointer_for (arg_at operands param) (ground_arg args param) arg.stands (arg.variable is)

      base_is : (b : MeaningBase) → base_is_below (length places) b ≡ true → denotation model (meaning_operand params operands store b) ≡ AValue (base_meant base cells args b)
      base_is (AParam param) below =
          let arg = known param (ltb-true param (length places) below) in value_for (arg_at operands param) (ground_arg args param) arg.stands
      base_is (ALiteral number) below = refl

      term_is : (term : MeaningTerm) → term_is_below (length places) term ≡ true → term_has_kinds places term ≡ true
          → denotation model (meaning_tree params operands store term) ≡ AValue (term_meant base cells args term)
      term_is (Plain b) below kinds = base_is b below
      term_is (Address param) below kinds = pointer_meant param (ltb-true param (length places) below) kinds
      term_is (Deref param) below kinds =
          ap (λ d. AValue (select (store_of d) (select (store_of d) (value_of (denotation model (address_at operands param)))))) is_store
          ∙ ap (λ d. AValue (select cells (select cells (value_of d)))) (pointer_meant param (ltb-true param (length places) below) kinds)
      term_is (Compute op left right) below kinds =
          let parts = and_parts _ _ below in
          ap (λ d. AValue (total op (value_of d) (value_of (denotation model (meaning_operand params operands store right))))) (base_is left parts.0)
          ∙ ap (λ d. AValue (total op (base_meant base cells args left) (value_of d))) (base_is right parts.1)

      alike_is : (left right : MeaningTerm) → (term_is_below (length places) left && term_is_below (length places) right) ≡ true → (term_has_kinds places left && term_has_kinds places right) ≡ true
          → alike (denotation model (meaning_tree params operands store left)) (denotation model (meaning_tree params operands store right))
          ≡ value_eq (term_meant base cells args left) (term_meant base cells args right)
      alike_is left right below kinds =
          let below_parts = and_parts _ _ below in
          let kind_parts = and_parts _ _ kinds in
          ap (λ d. alike d (denotation model (meaning_tree params operands store right))) (term_is left below_parts.0 kind_parts.0)
          ∙ ap (alike (AValue (term_meant base cells args left))) (term_is right below_parts.1 kind_parts.1)

      atom_is : (atom : MeaningAtom) → atom_is_below (length places) atom ≡ true → atom_has_kinds places atom ≡ true
          → is_true_in model (atom_literal params operands store atom) ≡ atom_holds base cells args atom
      atom_is (Same left right) below kinds = alike_is left right below kinds
      atom_is (Differ left right) below kinds = ap not (alike_is left right below kinds)
      atom_is (IsNumber term) below kinds = ap (λ d. beq (is_number (value_of d)) true) (term_is term below kinds) ∙ same_as_true (is_number (term_meant base cells args term))
      atom_is (IsPointer term) below kinds = ap (λ d. beq (is_number (value_of d)) false) (term_is term below kinds) ∙ same_as_false (is_number (term_meant base cells args term))
      atom_is (Unaliased param) below kinds =
          ap (λ d. beq (is_unheld (store_of d) (value_of (denotation model (address_at operands param)))) true) is_store
          ∙ ap (λ d. beq (is_unheld cells (value_of d)) true) (pointer_meant param (ltb-true param (length places) below) kinds)
          ∙ same_as_true (is_unheld cells (arg_pointer base (ground_arg args param)))

      atoms_are : (atoms : List MeaningAtom) → list_all (atom_is_below (length places)) atoms ≡ true → list_all (atom_has_kinds places) atoms ≡ true
          → list_all (is_true_in model) (map (atom_literal params operands store) atoms) ≡ list_all (atom_holds base cells args) atoms
      atoms_are [] below kinds = refl
      atoms_are (atom ∷ atoms) below kinds =
          let below_parts = and_parts _ _ below in
          let kind_parts = and_parts _ _ kinds in
          ap (λ b. b && list_all (is_true_in model) (map (atom_literal params operands store) atoms)) (atom_is atom below_parts.0 kind_parts.0)
          ∙ ap (λ b. atom_holds base cells args atom && b) (atoms_are atoms below_parts.1 kind_parts.1)

    -- the literals of a schema over a store
    pub schema_says : (schema : Schema) (operands : List RuleBase) (args : List Arg) → SchemaPassed schema → length operands ≡ length schema.params
        → args_fit params schema.params operands ≡ true → StandForAll model base params operands args
        → list_all (is_true_in model) (schema_literals params operands store schema) ≡ holds_over base cells schema args
    schema_says schema operands args passed same fit stand =
        atoms_are schema.params operands args (λ param below. arg_is schema.params operands args param below same fit stand) schema.meaning passed.numbers passed.kinds
