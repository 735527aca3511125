-- Each fact of a procedure has one number.
use Rattle.std.proofs.Common.{ℕ, ◌≡◌, ◌+◌, ◌*◌, List, [], ◌∷◌, Some, zero, suc, refl, ap, sym, ◌∙◌, map, take}
use Rattle.std.specs.Prelude.{slice_get}
use Rattle.std.specs.List.{range_with_len}
use Rattle.std.proofs.lemmas.Option.{same_Some}
use Rattle.rh_il.specs.declared.program.Proc.{Proc}
use Rattle.rh_rule.specs.declared.rule.Arg.{Arg}
use Rattle.rh_rule.specs.declared.rule.Arg.TheVariants.{Var, Const}
use Rattle.rh_rule.specs.declared.schema.Kind.{Kind}
use Rattle.rh_rule.specs.declared.schema.Kind.TheVariants.{Var as AVar, Const as AConst}
use Rattle.rh_rule.specs.declared.schema.Param.{Param}
use Rattle.rh_rule.specs.declared.schema.Schema.{Schema}
use Rattle.rh_domain.specs.declared.fact.GroundFact.{GroundFact}
use Rattle.rh_domain.specs.Binding.{Binding, args_in, bindings_in, domain_of}
use Rattle.rh_domain.specs.Constants.{constants_of}
use Rattle.rh_domain.specs.Count.{binding_count, fact_count}
use Rattle.rh_domain.specs.Facts.{facts_of}
use Rattle.rh_domain.proofs.FactNumbers.{fact_stands}
use Rattle.rh_domain.proofs.Joined.{apart}
use Rattle.rh_domain.proofs.Numbered.{const_of, no_var_among, var_of}
use Rattle.rh_layout.proofs.Rising.{constants_apart}

vars_apart : (n i j : ℕ) (x : Arg) → slice_get (map Var (range_with_len 0 n)) i ≡ Some x → slice_get (map Var (range_with_len 0 n)) j ≡ Some x → i ≡ j
vars_apart n i j x one two = let same : Var i ≡ Var j = sym (var_of n i x one).0 ∙ (var_of n j x two).0 in cc

module _ (proc : Proc) where
  consts_apart : (i j : ℕ) (x : Arg) → slice_get (map Const (constants_of proc)) i ≡ Some x → slice_get (map Const (constants_of proc)) j ≡ Some x → i ≡ j
  consts_apart i j (Const number) one two = constants_apart proc i j number (const_of (constants_of proc) i number one) (const_of (constants_of proc) j number two)
  consts_apart i j (Var number) one two = absurd (no_var_among (constants_of proc) i number one)

  args_apart : (kind : Kind) (i j : ℕ) (x : Arg) → slice_get (args_in (domain_of proc) kind) i ≡ Some x → slice_get (args_in (domain_of proc) kind) j ≡ Some x → i ≡ j
  args_apart AVar i j x one two = vars_apart (domain_of proc).vars i j x one two
  args_apart AConst i j x one two = consts_apart i j x one two

  bindings_apart : (params : List Param) (i j : ℕ) (x : Binding) → slice_get (bindings_in (domain_of proc) params) i ≡ Some x → slice_get (bindings_in (domain_of proc) params) j ≡ Some x → i ≡ j
  bindings_apart [] zero zero x one two = refl
  bindings_apart [] zero (suc j) x one two = absurd cc
  bindings_apart [] (suc i) j x one two = absurd cc
  bindings_apart (param ∷ params) i j x one two =
      let left = apart (domain_of proc) param params i x one in
      let right = apart (domain_of proc) param params j x two in
      let whole : left.arg ∷ left.rest ≡ right.arg ∷ right.rest = sym left.whole ∙ right.whole in
      let same_arg : left.arg ≡ right.arg = cc in
      let same_rest : left.rest ≡ right.rest = cc in
      let digits = args_apart param.kind left.digit right.digit right.arg (left.first ∙ ap Some same_arg) right.first in
      let rests = bindings_apart params left.left right.left right.rest (left.others ∙ ap Some same_rest) right.others in
      left.number_is ∙ ap (λ d. d * binding_count (domain_of proc) params + left.left) digits
      ∙ ap (λ n. right.digit * binding_count (domain_of proc) params + n) rests ∙ sym right.number_is

  pub facts_apart : (schemas : List Schema) (i j : ℕ) (x : GroundFact) → slice_get (facts_of schemas proc) i ≡ Some x → slice_get (facts_of schemas proc) j ≡ Some x → i ≡ j
  facts_apart schemas i j x one two =
      let left = fact_stands (domain_of proc) schemas i x one in
      let right = fact_stands (domain_of proc) schemas j x two in
      let same_shape : left.shape ≡ right.shape = same_Some left.shape right.shape (sym left.shape_at ∙ right.shape_at) in
      let also = ap (λ (s : Schema). slice_get (bindings_in (domain_of proc) s.params) left.within) (sym same_shape) ∙ left.args_at in
      let within = bindings_apart right.shape.params left.within right.within x.args also right.args_at in
      left.number_is ∙ ap (λ n. fact_count (domain_of proc) (take x.schema schemas) + n) within ∙ sym right.number_is
