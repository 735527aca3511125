-- Bindings to the variables and constants of a procedure fit the kinds of the metavariables.
use Rattle.std.proofs.Common.{ℕ, zero, suc, ℤ, pos, ◌≡◌, ◌<◌, true, false, List, [], ◌∷◌, map, length, ◌⊎◌, inl, inr, refl, ap, sym, subst, arith, rules}
use Rattle.std.specs.List.{AllZip, AllByRecursion, flat_map, range_with_len}
use Rattle.std.specs.Ordering.{int_eq}
use Rattle.std.specs.Prelude.{int_lt, Some, if◌then◌else◌}
use Rattle.rh_list.specs.Each.{Each}
use Rattle.rh_il.specs.declared.program.Proc.{Proc}
use Rattle.rh_il.specs.declared.program.Stmt.{Stmt}
use Rattle.std.proofs.lemmas.Bool.{lt-ltb}
use Rattle.rh_il.specs.Checks.{is_base}
use Rattle.rh_il.specs.Value.{IsNumber}
use Rattle.rh_il.specs.Numbers.{HasNumbers, operand_numbers}
use Rattle.rh_rule.specs.declared.rule.Arg.{Arg}
use Rattle.rh_rule.specs.declared.rule.Arg.TheVariants.{Var, Const}
use Rattle.rh_rule.specs.declared.rule.RuleBase.{RuleBase}
use Rattle.rh_rule.specs.declared.rule.RuleBase.TheVariants.{Meta, Num, Wild}
use Rattle.rh_rule.specs.declared.schema.Kind.{Kind}
use Rattle.rh_rule.specs.declared.schema.Kind.TheVariants.{Var as AVar, Const as AConst}
use Rattle.rh_rule.specs.declared.schema.Param.{Param}
use Rattle.rh_rule.specs.Params.{kind_of}
use Rattle.rh_domain.specs.Binding.{Binding, FitsKind, FitsBinding, args_of, as_base, as_variable, base_under, bindings, bound}
use Rattle.rh_domain.specs.Constants.{with_number, rising, constants_of}
use Rattle.rh_ground.proofs.Members.{IsItem, item_of_map, item_of_flat_map, item_of_range}

zero_fits : IsNumber (pos 0)
zero_fits = search rules

one_fits : IsNumber (pos 1)
one_fits = search rules

item_of_with : (x y : ℤ) (ys : List ℤ) → IsItem x (with_number y ys) → (x ≡ y) ⊎ IsItem x ys
item_of_with x y [] (inl same) = inl same
item_of_with x y [] (inr there) = absurd there
item_of_with x y (z ∷ zs) there =
    elim (int_eq y z) as (λ b. IsItem x (if b then z ∷ zs else (if int_lt y z then y ∷ z ∷ zs else z ∷ with_number y zs)) → (x ≡ y) ⊎ IsItem x (z ∷ zs)) [
      | true ↦ λ item. inr item
      | false ↦ elim (int_lt y z) as (λ c. IsItem x (if c then y ∷ z ∷ zs else z ∷ with_number y zs) → (x ≡ y) ⊎ IsItem x (z ∷ zs)) [
        | true ↦ λ item. item
        | false ↦ λ item. elim item as (λ _. (x ≡ y) ⊎ IsItem x (z ∷ zs)) [
          | inl same ↦ inr (inl same)
          | inr later ↦ elim (item_of_with x y zs later) as (λ _. (x ≡ y) ⊎ IsItem x (z ∷ zs)) [ inl same ↦ inl same | inr rest ↦ inr (inr rest) ]
        ]
      ]
    ] there

item_of_rising : (x : ℤ) (xs : List ℤ) → IsItem x (rising xs) → IsItem x xs
item_of_rising x [] there = absurd there
item_of_rising x (y ∷ ys) there =
    elim (item_of_with x y (rising ys) there) as (λ _. IsItem x (y ∷ ys)) [ inl same ↦ inl same | inr later ↦ inr (item_of_rising x ys later) ]

item_of_all : {X : Type 0} (P : X → Type 0) (x : X) (xs : List X) → AllByRecursion P xs → IsItem x xs → P x
item_of_all P x [] all there = absurd there
item_of_all P x (y ∷ ys) all (inl same) = subst P (sym same) all.0
item_of_all P x (y ∷ ys) all (inr there) = item_of_all P x ys all.1 there

item_of_each : {X : Type 0} (P : X → Type 0) (x : X) (xs : List X) → Each P xs → IsItem x xs → P x
item_of_each P x [] each there = absurd there
item_of_each P x (y ∷ ys) each (inl same) = each 0 x (ap Some (sym same))
item_of_each P x (y ∷ ys) each (inr there) = item_of_each P x ys (λ i. each (suc i)) there

constant_fits : (proc : Proc) (c : ℤ) → HasNumbers proc → IsItem c (constants_of proc) → IsNumber c
constant_fits proc c numbers there =
    elim (item_of_rising c (pos 0 ∷ pos 1 ∷ flat_map operand_numbers proc.body) there) as (λ _. IsNumber c) [
      | inl same ↦ subst IsNumber (sym same) zero_fits
      | inr later ↦ elim later as (λ _. IsNumber c) [
        | inl same ↦ subst IsNumber (sym same) one_fits
        | inr inside ↦
            let found = item_of_flat_map operand_numbers c proc.body inside in
            item_of_all IsNumber c (operand_numbers found.0) (item_of_each (λ (stmt : Stmt). AllByRecursion IsNumber (operand_numbers stmt)) found.0 proc.body numbers found.1) found.2
      ]
    ]

arg_fits : (proc : Proc) (kind : Kind) (arg : Arg) → HasNumbers proc → IsItem arg (args_of proc kind) → FitsKind (length proc.vars) kind arg
arg_fits proc AVar arg numbers there =
    let found = item_of_map Var arg (range_with_len 0 (length proc.vars)) there in
    subst (FitsKind (length proc.vars) AVar) (sym found.2) (let below = (item_of_range found.0 0 (length proc.vars) found.1).1 in omega (arith, below))
arg_fits proc AConst arg numbers there =
    let found = item_of_map Const arg (constants_of proc) there in
    subst (FitsKind (length proc.vars) AConst) (sym found.2) (constant_fits proc found.0 numbers found.1)

-- each argument fits the kind of its metavariable
abbrev FitsEach : ℕ → List Param → Binding → Type 0
FitsEach width params binding = AllZip (λ (param : Param) arg. FitsKind width param.kind arg) params binding

each_fits : (proc : Proc) (params : List Param) (binding : Binding) → HasNumbers proc → IsItem binding (bindings proc params) → FitsEach (length proc.vars) params binding
each_fits proc [] binding numbers (inl same) = subst (FitsEach (length proc.vars) []) (sym same) tt
each_fits proc [] binding numbers (inr there) = absurd there
each_fits proc (param ∷ params) binding numbers there =
    let outer = item_of_flat_map (λ arg. map (λ rest. arg ∷ rest) (bindings proc params)) binding (args_of proc param.kind) there in
    let inner = item_of_map (λ rest. outer.0 ∷ rest) binding (bindings proc params) outer.2 in
    subst (FitsEach (length proc.vars) (param ∷ params)) (sym inner.2)
    (arg_fits proc param.kind outer.0 numbers outer.1, each_fits proc params inner.0 numbers inner.1)

by_number : (width : ℕ) (params : List Param) (binding : Binding) → FitsEach width params binding → FitsBinding width params binding
by_number width [] [] each meta = zero_fits
by_number width [] (arg ∷ binding) each meta = absurd each
by_number width (param ∷ params) [] each meta = absurd each
by_number width (param ∷ params) (arg ∷ binding) each zero = each.0
by_number width (param ∷ params) (arg ∷ binding) each (suc meta) = by_number width params binding each.1 meta

-- a binding to variables and constants of the procedure fits
pub binding_fits : (proc : Proc) (params : List Param) (binding : Binding) → HasNumbers proc → IsItem binding (bindings proc params) → FitsBinding (length proc.vars) params binding
binding_fits proc params binding numbers there = by_number (length proc.vars) params binding (each_fits proc params binding numbers there)

var_inside : (width : ℕ) (arg : Arg) → FitsKind width AVar arg → as_variable arg < width
var_inside width (Var number) fits = fits
var_inside width (Const number) fits = absurd fits

-- what a metavariable for variables is bound to is a variable of the procedure
pub variable_inside : (width : ℕ) (params : List Param) (binding : Binding) (meta : ℕ) → FitsBinding width params binding → kind_of params meta ≡ AVar → as_variable (bound binding meta) < width
variable_inside width params binding meta fits kind = var_inside width (bound binding meta) (subst (λ k. FitsKind width k (bound binding meta)) kind (fits meta))

arg_inside : (width : ℕ) (kind : Kind) (arg : Arg) → FitsKind width kind arg → is_base width (as_base arg) ≡ true
arg_inside width AVar (Var number) fits = lt-ltb number width fits
arg_inside width AVar (Const number) fits = absurd fits
arg_inside width AConst (Var number) fits = absurd fits
arg_inside width AConst (Const number) fits = refl

-- an operand of a rule is one of the procedure
pub operand_inside : (width : ℕ) (params : List Param) (binding : Binding) (b : RuleBase) → FitsBinding width params binding → is_base width (base_under binding b) ≡ true
operand_inside width params binding (Meta meta) fits = arg_inside width (kind_of params meta) (bound binding meta) (fits meta)
operand_inside width params binding (Num number) fits = refl
operand_inside width params binding Wild fits = refl
