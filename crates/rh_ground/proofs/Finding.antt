-- Looking among lists that begin with an argument, one argument after another.
use Rattle.std.proofs.Common.{ℕ, zero, suc, ◌≡◌, ◌+◌, ◌-◌, ◌<◌, Bool, true, false, cond, ◌||◌, List, [], ◌∷◌, ◌++◌, map, length, take, drop, Option, Some, None, refl, ap, sym, ◌∙◌, arith}
use Rattle.std.specs.List.{find, flat_map, list_any}
use Rattle.std.specs.Option.{option_map, option_or}
use Rattle.std.specs.Prelude.{slice_get, IfSome, if◌then◌else◌}
use Rattle.std.proofs.lemmas.Option.{same_Some}
use Rattle.rh_rule.specs.declared.rule.Arg.{Arg}
use Rattle.rh_rule.specs.declared.schema.Param.{Param}
use Rattle.rh_domain.specs.declared.domain.Domain.{Domain}
use Rattle.rh_domain.specs.Binding.{Binding, arg_eq, args_in, bindings_in, bound}
use Rattle.rh_ground.specs.Find.{FindsArgs, args_to_try, between}
use Rattle.rh_ground.specs.Fixed.{Fixes}
use Rattle.rh_ground.proofs.SameArgs.{arg_eq-same, arg_eq-true}
use Rattle.rh_ground.proofs.FindLists.{append_nothing, append_one, find_append, find_map, find_none, find_same}

drop_at : {X : Type 0} (xs : List X) (k : ℕ) (x : X) → slice_get xs k ≡ Some x → drop k xs ≡ x ∷ drop (k + 1) xs
drop_at [] k x read = cc
drop_at (y ∷ xs) zero x read = ap (λ z. z ∷ xs) (same_Some y x read)
drop_at (y ∷ xs) (suc k) x read = let next : suc (k + 1) ≡ suc k + 1 = omega arith in drop_at xs k x read ∙ ap (λ n. x ∷ drop n (y ∷ xs)) next

-- the item at the first number comes first
pub between_next : {X : Type 0} (xs : List X) (k end : ℕ) (x : X) → slice_get xs k ≡ Some x → k < end → between k end xs ≡ x ∷ between (k + 1) end xs
between_next xs k end x read below =
    let size : end - k ≡ suc (end - (k + 1)) = omega (arith, below) in ap (λ n. take n (drop k xs)) size ∙ ap (take (suc (end - (k + 1)))) (drop_at xs k x read)

pub between_none : {X : Type 0} (xs : List X) (k end : ℕ) → k ≡ end → between k end xs ≡ []
between_none xs k end is = let size : end - k ≡ 0 = omega (arith, is) in ap (λ n. take n (drop k xs)) size

pub between_one : {X : Type 0} (xs : List X) (k : ℕ) (x : X) → slice_get xs k ≡ Some x → between k (k + 1) xs ≡ x ∷ []
between_one xs k x read = between_next xs k (k + 1) x read (omega arith) ∙ ap (λ r. x ∷ r) (between_none xs (k + 1) (k + 1) refl)

-- the lists that begin with an argument
abbrev pub beginning : List Binding → Arg → List Binding
beginning rests arg = map (λ rest. arg ∷ rest) rests

or_itself : {X : Type 0} (b : Bool) (o : Option X) → option_or o (cond b o None) ≡ o
or_itself true None = refl
or_itself true (Some x) = refl
or_itself false None = refl
or_itself false (Some x) = refl

module _ (test : Binding → Bool) (rests : List Binding) where
  -- the first that passes, among those that begin with one of the arguments
  abbrev pub first_among : List Arg → Option Binding
  first_among args = find test (flat_map (beginning rests) args)

  -- those that begin with the first argument come first
  among_next : (arg : Arg) (args : List Arg) → first_among (arg ∷ args) ≡ option_or (find test (beginning rests arg)) (first_among args)
  among_next arg args = find_append test (beginning rests arg) (flat_map (beginning rests) args)

  one_among : (arg : Arg) → first_among (arg ∷ []) ≡ find test (beginning rests arg)
  one_among arg = ap (find test) (append_nothing (beginning rests arg))

  -- where all that pass begin with one argument, only that one is looked at
  module _ (arg : Arg) (fixed : (other : Arg) (rest : Binding) → test (other ∷ rest) ≡ true → other ≡ arg) where
    fails : (other : Arg) (rest : Binding) → arg_eq arg other ≡ false → test (other ∷ rest) ≡ false
    fails other rest differs =
        elim (test (other ∷ rest)) as (λ b. test (other ∷ rest) ≡ b → b ≡ false) [
          | true ↦ λ passes. let same : true ≡ false = sym (arg_eq-same arg) ∙ ap (arg_eq arg) (sym (fixed other rest passes)) ∙ differs in same
          | false ↦ λ is. refl
        ] refl

    none_begins : (other : Arg) → arg_eq arg other ≡ false → find test (beginning rests other) ≡ None
    none_begins other differs =
        find_map test (λ rest. other ∷ rest) rests ∙ ap (option_map (λ rest. other ∷ rest)) (find_none (λ rest. test (other ∷ rest)) rests (λ rest. fails other rest differs))

    only_there : (args : List Arg) → first_among args ≡ cond (list_any (arg_eq arg) args) (find test (beginning rests arg)) None
    only_there [] = refl
    only_there (x ∷ args) =
        among_next x args
        ∙ elim (arg_eq arg x) as (λ b. arg_eq arg x ≡ b → option_or (find test (beginning rests x)) (first_among args) ≡ cond (b || list_any (arg_eq arg) args) (find test (beginning rests arg)) None) [
          | true ↦ λ is.
              ap (λ z. option_or (find test (beginning rests z)) (first_among args)) (sym (arg_eq-true arg x is)) ∙ ap (option_or (find test (beginning rests arg))) (only_there args)
              ∙ or_itself (list_any (arg_eq arg) args) (find test (beginning rests arg))
          | false ↦ λ is. ap (λ o. option_or o (first_among args)) (none_begins x is) ∙ only_there args
        ] refl

    pub narrowed : (args : List Arg) → first_among args ≡ first_among (args_to_try (Some arg) args)
    narrowed args =
        only_there args
        ∙ elim (list_any (arg_eq arg) args) as (λ b. cond b (find test (beginning rests arg)) None ≡ first_among (if b then arg ∷ [] else [])) [ true ↦ sym (one_among arg) | false ↦ refl ]

-- the argument after those that are bound
bound_behind : (old : Binding) (arg : Arg) (rest : Binding) → bound (old ++ arg ∷ rest) (length old) ≡ arg
bound_behind [] arg rest = refl
bound_behind (a ∷ old) arg rest = bound_behind old arg rest

-- whether the binding is wanted, with more arguments after those that are there
abbrev pub after : (Binding → Bool) → Binding → Binding → Bool
after accepts old rest = accepts (old ++ rest)

-- the first wanted binding, with one of the arguments from a number up to another one
abbrev pub first_from : Domain → Param → List Param → (Binding → Bool) → Binding → ℕ → ℕ → Option Binding
first_from domain param others accepts old k end = first_among (after accepts old) (bindings_in domain others) (between k end (args_in domain param.kind))

module _ (domain : Domain) (params : List Param) (param : Param) (others : List Param) (params_are : params ≡ param ∷ others) (accepts : Binding → Bool) (old : Binding) where
  abbrev all : Option Binding
  all = find (after accepts old) (bindings_in domain params)

  all_args : all ≡ first_among (after accepts old) (bindings_in domain others) (args_in domain param.kind)
  all_args = ap (λ ps. find (after accepts old) (bindings_in domain ps)) params_are

  -- at first all arguments are to be tried, or the fixed one alone
  pub at_first : (fixed : Option Arg) (meta first end : ℕ) → meta ≡ length old → IfSome fixed (Fixes accepts meta)
      → between first end (args_in domain param.kind) ≡ args_to_try fixed (args_in domain param.kind) → all ≡ first_from domain param others accepts old first end
  at_first None meta first end at known tried = all_args ∙ ap (first_among (after accepts old) (bindings_in domain others)) (sym tried)
  at_first (Some arg) meta first end at known tried =
      all_args
      ∙ narrowed (after accepts old) (bindings_in domain others) arg
      (λ other rest passes. sym (bound_behind old other rest) ∙ ap (bound (old ++ other ∷ rest)) (sym at) ∙ known (old ++ other ∷ rest) passes) (args_in domain param.kind)
      ∙ ap (first_among (after accepts old) (bindings_in domain others)) (sym tried)

  -- one argument after those that are there
  module _ (k end : ℕ) (below : k < end) (arg : Arg) (at : slice_get (args_in domain param.kind) k ≡ Some arg) (pushed : Binding) (pushed_is : pushed ≡ old ++ arg ∷ []) where
    from_next : first_from domain param others accepts old k end
        ≡ option_or (option_map (λ rest. arg ∷ rest) (find (λ rest. after accepts old (arg ∷ rest)) (bindings_in domain others))) (first_from domain param others accepts old (k + 1) end)
    from_next =
        ap (first_among (after accepts old) (bindings_in domain others)) (between_next (args_in domain param.kind) k end arg at below)
        ∙ among_next (after accepts old) (bindings_in domain others) arg (between (k + 1) end (args_in domain param.kind))
        ∙ ap (λ o. option_or o (first_from domain param others accepts old (k + 1) end)) (find_map (after accepts old) (λ rest. arg ∷ rest) (bindings_in domain others))

    one_behind : find (λ rest. after accepts old (arg ∷ rest)) (bindings_in domain others) ≡ find (after accepts pushed) (bindings_in domain others)
    one_behind =
        find_same (λ rest. after accepts old (arg ∷ rest)) (after accepts pushed) (bindings_in domain others)
        (λ rest. sym (ap (λ b. accepts (b ++ rest)) pushed_is ∙ ap accepts (append_one old arg rest)))

    -- nothing was found with the argument
    pub tried : (new : Binding) → FindsArgs domain others accepts pushed false new → all ≡ first_from domain param others accepts old k end → all ≡ first_from domain param others accepts old (k + 1) end
    tried new finds so_far = so_far ∙ from_next ∙ ap (λ o. option_or (option_map (λ rest. arg ∷ rest) o) (first_from domain param others accepts old (k + 1) end)) (one_behind ∙ finds.1)

    -- something was
    pub found_with : (new : Binding) → FindsArgs domain others accepts pushed true new → all ≡ first_from domain param others accepts old k end → FindsArgs domain params accepts old true new
    found_with new finds so_far = (
      arg ∷ finds.0,
      finds.1 ∙ ap (λ b. b ++ finds.0) pushed_is ∙ append_one old arg finds.0,
      so_far ∙ from_next ∙ ap (λ o. option_or (option_map (λ rest. arg ∷ rest) o) (first_from domain param others accepts old (k + 1) end)) (one_behind ∙ finds.2),
    )
