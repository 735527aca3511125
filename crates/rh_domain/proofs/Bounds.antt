-- There are not too many facts to be counted in 128 bits.
use Rattle.std.proofs.Common.{ℕ, suc, ◌≡◌, ◌+◌, ◌*◌, ◌^◌, ◌≤◌, List, [], ◌∷◌, length, refl, arith}
use Rattle.std.specs.List.{AllByRecursion}
use Rattle.std.proofs.Math.Nat.{mul-le-mul, pow-le-pow_right, pow-succ'}
use Rattle.std.proofs.lemmas.List.{length-map}
use Rattle.rh_rule.specs.declared.rule.Arg.TheVariants.{Const as ANumber}
use Rattle.rh_rule.specs.declared.schema.Kind.{Kind}
use Rattle.rh_rule.specs.declared.schema.Kind.TheVariants.{Var, Const}
use Rattle.rh_rule.specs.declared.schema.Param.{Param}
use Rattle.rh_rule.specs.declared.schema.Schema.{Schema}
use Rattle.rh_domain.specs.declared.domain.Domain.{Domain}
use Rattle.rh_domain.specs.Binding.{args_in}
use Rattle.rh_domain.specs.Count.{IsSmall, binding_count, fact_count}
use Rattle.rh_domain.proofs.Numbered.{var_count}

few_args : (domain : Domain) (kind : Kind) → IsSmall domain → length (args_in domain kind) ≤ 2050
few_args domain Var small = let size = var_count domain.vars in omega (arith, size, small.vars)
few_args domain Const small = let size = length-map domain.constants ANumber in omega (arith, size, small.constants)

few_by_params : (domain : Domain) (params : List Param) → IsSmall domain → binding_count domain params ≤ 2050 ^ length params
few_by_params domain [] small = omega arith
few_by_params domain (param ∷ params) small =
    let more = mul-le-mul (few_args domain param.kind small) (few_by_params domain params small) in
    let whole : 2050 ^ suc (length params) ≡ 2050 * 2050 ^ length params = pow-succ' 2050 (length params) in
    omega (arith, more, whole)

-- six parameters have at most so many bindings
abbrev pub most_bindings : ℕ
most_bindings = 2050 ^ 6

pub few_bindings : (domain : Domain) (params : List Param) → IsSmall domain → length params ≤ 6 → binding_count domain params ≤ most_bindings
few_bindings domain params small few =
    let bound = few_by_params domain params small in
    let more : 2050 ^ length params ≤ 2050 ^ 6 = pow-le-pow_right (omega arith) few in
    omega (arith, bound, more)

pub few_facts : (domain : Domain) (schemas : List Schema) → IsSmall domain → AllByRecursion (λ (schema : Schema). length schema.params ≤ 6) schemas
    → fact_count domain schemas ≤ length schemas * most_bindings
few_facts domain [] small few = omega arith
few_facts domain (schema ∷ schemas) small few =
    let here = few_bindings domain schema.params small few.0 in
    let rest = few_facts domain schemas small few.1 in
    let whole : suc (length schemas) * most_bindings ≡ most_bindings + length schemas * most_bindings = omega arith in
    let added : fact_count domain (schema ∷ schemas) ≡ binding_count domain schema.params + fact_count domain schemas = refl in
    omega (arith, here, rest, whole, added)
