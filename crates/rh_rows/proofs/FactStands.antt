-- What a use of a schema stands for under a binding is one of the facts of the procedure.
use Rattle.std.proofs.Common.{ℕ, ℤ, pos, zero, suc, ◌≡◌, true, false, not, List, [], ◌∷◌, map, length, Option, Some, None, inl, inr, refl, sym, subst, arith, eqb-true}
use Rattle.std.specs.List.{flat_map, list_all, list_any}
use Rattle.std.specs.Option.{option_map_or}
use Rattle.std.specs.Ordering.{int_eq}
use Rattle.std.specs.Prelude.{◌==◌, ◌||◌, int_lt, slice_get, if◌then◌else◌}
use Rattle.std.proofs.lemmas.Bool.{and_parts, false≢true}
use Rattle.rh_il.specs.declared.program.Proc.{Proc}
use Rattle.rh_il.specs.Numbers.{operand_numbers}
use Rattle.rh_rule.specs.declared.rule.Arg.TheVariants.{Const}
use Rattle.rh_rule.specs.declared.rule.FactUse.{FactUse}
use Rattle.rh_rule.specs.declared.rule.RuleBase.{RuleBase}
use Rattle.rh_rule.specs.declared.rule.RuleBase.TheVariants.{Meta, Num, Wild}
use Rattle.rh_rule.specs.declared.schema.Kind.{Kind}
use Rattle.rh_rule.specs.declared.schema.Kind.TheVariants.{Var as AVar, Const as AConst}
use Rattle.rh_rule.specs.declared.schema.Param.{Param}
use Rattle.rh_rule.specs.declared.schema.Schema.{Schema}
use Rattle.rh_rule.specs.Kinds.{args_fit, fact_has_kinds, fits_place, is_var_kind}
use Rattle.rh_rule.specs.Numbers.{fact_has_arity}
use Rattle.rh_rule.specs.Params.{kind_of}
use Rattle.rh_domain.specs.Binding.{Binding, arg_under, args_in, bindings, bindings_in, bound, domain_of}
use Rattle.rh_domain.specs.Constants.{constants_of, is_constant, rising, with_number}
use Rattle.rh_domain.specs.Facts.{facts_of}
use Rattle.rh_domain.proofs.FactNumbers.{fact_read, of_schema_at}
use Rattle.rh_ground.specs.Instance.{fact_under, is_base_in_domain, is_fact_in_domain}
use Rattle.rh_ground.proofs.Members.{IsItem, item_of_flat_map, item_of_map}
use Rattle.rh_ground.proofs.SameArgs.{arg_eq-true}
use Rattle.rh_rows.proofs.Items.{in_flat_map, in_map, item_at, place_of}

-- ---- constants

same_number : (x y : ℤ) → int_eq x y ≡ true → x ≡ y
same_number x y is = let same : Const x ≡ Const y = arg_eq-true (Const x) (Const y) is in cc

-- a number that is put into a list stands there
put_stands : (x : ℤ) (ys : List ℤ) → IsItem x (with_number x ys)
put_stands x [] = inl refl
put_stands x (y ∷ ys) =
    elim (int_eq x y) as (λ b. int_eq x y ≡ b → IsItem x (if b then y ∷ ys else (if int_lt x y then x ∷ y ∷ ys else y ∷ with_number x ys))) [
      | true ↦ λ is. inl (same_number x y is)
      | false ↦ λ is. elim (int_lt x y) as (λ c. IsItem x (if c then x ∷ y ∷ ys else y ∷ with_number x ys)) [ true ↦ inl refl | false ↦ inr (put_stands x ys) ]
    ] refl

zero_stands : (proc : Proc) → IsItem (pos 0) (constants_of proc)
zero_stands proc = put_stands (pos 0) (rising (pos 1 ∷ flat_map operand_numbers proc.body))

constant_stands : (number : ℤ) (xs : List ℤ) → list_any (int_eq number) xs ≡ true → IsItem number xs
constant_stands number [] is = absurd (false≢true is)
constant_stands number (x ∷ xs) is =
    elim (int_eq number x) as (λ b. int_eq number x ≡ b → (b || list_any (int_eq number) xs) ≡ true → IsItem number (x ∷ xs)) [
      | true ↦ λ here any. inl (same_number number x here)
      | false ↦ λ here any. inr (constant_stands number xs any)
    ] refl is

-- ---- arguments

var_kind : (kind : Kind) → is_var_kind kind ≡ true → kind ≡ AVar
var_kind AVar is = refl
var_kind AConst is = absurd (false≢true is)

const_kind : (kind : Kind) → not (is_var_kind kind) ≡ true → kind ≡ AConst
const_kind AVar is = absurd (false≢true is)
const_kind AConst is = refl

var_found : (found : Option Param) → option_map_or (λ (param : Param). is_var_kind param.kind) found false ≡ true → option_map_or (λ (param : Param). param.kind) found AConst ≡ AVar
var_found None is = absurd (false≢true is)
var_found (Some param) is = var_kind param.kind is

const_found : (found : Option Param) → not (option_map_or (λ (param : Param). is_var_kind param.kind) found false) ≡ true → option_map_or (λ (param : Param). param.kind) found AConst ≡ AConst
const_found None is = refl
const_found (Some param) is = const_kind param.kind is

-- a metavariable stands in places of its kind
kind_is : (params : List Param) (kind : Kind) (meta : ℕ) → fits_place params kind (Meta meta) ≡ true → kind_of params meta ≡ kind
kind_is params AVar meta fits = var_found (slice_get params meta) fits
kind_is params AConst meta fits = const_found (slice_get params meta) fits

module _ (proc : Proc) where
  bound_stands : (params : List Param) (binding : Binding) (meta : ℕ) → IsItem binding (bindings proc params) → IsItem (bound binding meta) (args_in (domain_of proc) (kind_of params meta))
  bound_stands [] binding meta (inl same) =
      subst (λ (b : Binding). IsItem (bound b meta) (args_in (domain_of proc) AConst)) (sym same) (in_map Const (pos 0) (constants_of proc) (zero_stands proc))
  bound_stands [] binding meta (inr there) = absurd there
  bound_stands (param ∷ params) binding zero there =
      let outer = item_of_flat_map (λ arg. map (λ rest. arg ∷ rest) (bindings proc params)) binding (args_in (domain_of proc) param.kind) there in
      let inner = item_of_map (λ rest. outer.0 ∷ rest) binding (bindings proc params) outer.2 in
      subst (λ (b : Binding). IsItem (bound b zero) (args_in (domain_of proc) param.kind)) (sym inner.2) outer.1
  bound_stands (param ∷ params) binding (suc meta) there =
      let outer = item_of_flat_map (λ arg. map (λ rest. arg ∷ rest) (bindings proc params)) binding (args_in (domain_of proc) param.kind) there in
      let inner = item_of_map (λ rest. outer.0 ∷ rest) binding (bindings proc params) outer.2 in
      subst (λ (b : Binding). IsItem (bound b (suc meta)) (args_in (domain_of proc) (kind_of params meta))) (sym inner.2) (bound_stands params inner.0 meta inner.1)

  module _ (params : List Param) (binding : Binding) (bound_by : IsItem binding (bindings proc params)) where
    number_stands : (kind : Kind) (number : ℤ) → fits_place params kind (Num number) ≡ true → is_constant proc number ≡ true → IsItem (Const number) (args_in (domain_of proc) kind)
    number_stands AVar number fits inside = absurd (false≢true fits)
    number_stands AConst number fits inside = in_map Const number (constants_of proc) (constant_stands number (constants_of proc) inside)

    wild_stands : (kind : Kind) → fits_place params kind Wild ≡ true → IsItem (Const (pos 0)) (args_in (domain_of proc) kind)
    wild_stands AVar fits = absurd (false≢true fits)
    wild_stands AConst fits = in_map Const (pos 0) (constants_of proc) (zero_stands proc)

    arg_stands : (kind : Kind) (base : RuleBase) → fits_place params kind base ≡ true → is_base_in_domain proc base ≡ true → IsItem (arg_under binding base) (args_in (domain_of proc) kind)
    arg_stands kind (Meta meta) fits inside = subst (λ k. IsItem (bound binding meta) (args_in (domain_of proc) k)) (kind_is params kind meta fits) (bound_stands params binding meta bound_by)
    arg_stands kind (Num number) fits inside = number_stands kind number fits inside
    arg_stands kind Wild fits inside = wild_stands kind fits

    args_stand : (places : List Param) (args : List RuleBase) → args_fit params places args ≡ true → length args ≡ length places → list_all (is_base_in_domain proc) args ≡ true
        → IsItem (map (arg_under binding) args) (bindings_in (domain_of proc) places)
    args_stand [] [] fit size inside = inl refl
    args_stand [] (arg ∷ args) fit size inside = absurd (omega (arith, size))
    args_stand (place ∷ places) [] fit size inside = absurd (omega (arith, size))
    args_stand (place ∷ places) (arg ∷ args) fit size inside =
        let fits = and_parts (fits_place params place.kind arg) (args_fit params places args) fit in
        let within = and_parts (is_base_in_domain proc arg) (list_all (is_base_in_domain proc) args) inside in
        let first = arg_under binding arg in
        let others = map (arg_under binding) args in
        in_flat_map (λ a. map (λ rest. a ∷ rest) (bindings_in (domain_of proc) places)) (first ∷ others) first (args_in (domain_of proc) place.kind) (arg_stands place.kind arg fits.0 within.0)
        (in_map (λ rest. first ∷ rest) others (bindings_in (domain_of proc) places) (args_stand places args fits.1 (omega (arith, size)) within.1))

    -- the fact is one of the procedure's
    pub fact_stands_under : (schemas : List Schema) (fact : FactUse) → fact_has_arity schemas fact ≡ true → fact_has_kinds schemas params fact ≡ true → is_fact_in_domain proc fact ≡ true
        → IsItem (fact_under binding fact) (facts_of schemas proc)
    fact_stands_under schemas fact arity kinds inside = by (slice_get schemas fact.schema) refl arity kinds
      where
        by : (found : Option Schema) → slice_get schemas fact.schema ≡ found → option_map_or (λ (schema : Schema). length fact.args == length schema.params) found false ≡ true
            → option_map_or (λ (schema : Schema). args_fit params schema.params fact.args) found false ≡ true → IsItem (fact_under binding fact) (facts_of schemas proc)
        by None read sizes fits = absurd (false≢true sizes)
        by (Some schema) read sizes fits =
            (let there = args_stand schema.params fact.args fits (eqb-true (length fact.args) (length schema.params) sizes) inside in
            let args = map (arg_under binding) fact.args in
            let at = place_of (bindings_in (domain_of proc) schema.params) args there in
            item_at (facts_of schemas proc) (fact_under binding fact) _
            (fact_read (domain_of proc) schemas fact.schema schema at.0 (fact_under binding fact) read (of_schema_at (domain_of proc) fact.schema schema at.0 args at.1)))
