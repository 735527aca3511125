-- Stores that read alike: the same facts hold over them.
use Rattle.std.proofs.Common.{ℕ, ◌≡◌, ◌+◌, ◌&&◌, not, List, [], ◌∷◌, Option, Some, None, refl, ap, ◌∙◌}
use Rattle.std.specs.List.{list_all}
use Rattle.std.specs.Option.{option_map_or}
use Rattle.std.specs.Prelude.{slice_get, false}
use Rattle.rh_il.specs.declared.value.Value.{Value}
use Rattle.rh_il.specs.Op.{total}
use Rattle.rh_il.specs.Value.{value_eq}
use Rattle.rh_rule.specs.declared.rule.Arg.{Arg}
use Rattle.rh_rule.specs.declared.rule.Arg.TheVariants.{Var, Const}
use Rattle.rh_rule.specs.declared.schema.MeaningAtom.{MeaningAtom}
use Rattle.rh_rule.specs.declared.schema.MeaningAtom.TheVariants.{Same, Differ, IsNumber, IsPointer, Unaliased}
use Rattle.rh_rule.specs.declared.schema.MeaningBase.{MeaningBase}
use Rattle.rh_rule.specs.declared.schema.MeaningBase.TheVariants.{Param as AParam, Num as ALiteral}
use Rattle.rh_rule.specs.declared.schema.MeaningTerm.{MeaningTerm}
use Rattle.rh_rule.specs.declared.schema.MeaningTerm.TheVariants.{Plain, Address, Deref, Compute}
use Rattle.rh_rule.specs.declared.schema.Schema.{Schema}
use Rattle.rh_domain.specs.declared.fact.GroundFact.{GroundFact}
use Rattle.rh_term.specs.Model.{is_number}
use Rattle.rh_term.specs.Store.{select}
use Rattle.rh_term.proofs.Stores.{SameReads, is_unheld-same, select-same}
use Rattle.rh_meaning.specs.Holds.{arg_pointer, arg_value, atom_holds, base_meant, ground_arg, holds_over, term_meant}
use Rattle.rh_lift.specs.Standing.{fact_holds}

module _ (base : ℕ) (left right : List Value) (same : SameReads left right) where
  arg_same : (arg : Arg) → arg_value base left arg ≡ arg_value base right arg
  arg_same (Var number) = same (base + number)
  arg_same (Const number) = refl

  module _ (args : List Arg) where
    base_same : (b : MeaningBase) → base_meant base left args b ≡ base_meant base right args b
    base_same (AParam param) = arg_same (ground_arg args param)
    base_same (ALiteral number) = refl

    term_same : (term : MeaningTerm) → term_meant base left args term ≡ term_meant base right args term
    term_same (Plain b) = base_same b
    term_same (Address param) = refl
    term_same (Deref param) =
        let pointer : Value = arg_pointer base (ground_arg args param) in
        select-same left right (select left pointer) same ∙ ap (select right) (select-same left right pointer same)
    term_same (Compute op a b) = ap (λ v. total op v (base_meant base left args b)) (base_same a) ∙ ap (total op (base_meant base right args a)) (base_same b)

    equal_same : (s t : MeaningTerm) → value_eq (term_meant base left args s) (term_meant base left args t) ≡ value_eq (term_meant base right args s) (term_meant base right args t)
    equal_same s t = ap (λ v. value_eq v (term_meant base left args t)) (term_same s) ∙ ap (value_eq (term_meant base right args s)) (term_same t)

    atom_same : (atom : MeaningAtom) → atom_holds base left args atom ≡ atom_holds base right args atom
    atom_same (Same s t) = equal_same s t
    atom_same (Differ s t) = ap not (equal_same s t)
    atom_same (IsNumber term) = ap is_number (term_same term)
    atom_same (IsPointer term) = ap (λ v. not (is_number v)) (term_same term)
    atom_same (Unaliased param) = is_unheld-same left right (arg_pointer base (ground_arg args param)) same

    atoms_same : (atoms : List MeaningAtom) → list_all (atom_holds base left args) atoms ≡ list_all (atom_holds base right args) atoms
    atoms_same [] = refl
    atoms_same (atom ∷ atoms) = ap (λ b. b && list_all (atom_holds base left args) atoms) (atom_same atom) ∙ ap (λ b. atom_holds base right args atom && b) (atoms_same atoms)

  by_schema : (schema : Option Schema) (args : List Arg)
      → option_map_or (λ (s : Schema). holds_over base left s args) schema false ≡ option_map_or (λ (s : Schema). holds_over base right s args) schema false
  by_schema None args = refl
  by_schema (Some schema) args = atoms_same args schema.meaning

  pub fact_same : (schemas : List Schema) (fact : GroundFact) → fact_holds schemas base left fact ≡ fact_holds schemas base right fact
  fact_same schemas fact = by_schema (slice_get schemas fact.schema) fact.args
