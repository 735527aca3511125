-- Visiting the bindings that begin with an argument, one argument after another.
use Rattle.std.proofs.Common.{ℕ, ◌≡◌, ◌+◌, ◌<◌, Bool, true, false, cond, ◌&&◌, ◌||◌, List, [], ◌∷◌, ◌++◌, map, length, Option, Some, refl, ap, sym, ◌∙◌, subst}
use Rattle.std.specs.List.{find, flat_map, list_any}
use Rattle.std.specs.Option.{is_some}
use Rattle.std.specs.Prelude.{slice_get, IfSome}
use Rattle.std.proofs.Math.Bool.{or-false, or_assoc}
use Rattle.std.proofs.lemmas.Bool.{and_parts}
use Rattle.std.proofs.lemmas.List.Folds.{list_any-append}
use Rattle.std.proofs.lemmas.Option.{IfSome_then}
use Rattle.rh_rule.specs.declared.rule.Arg.{Arg}
use Rattle.rh_rule.specs.declared.schema.Param.{Param}
use Rattle.rh_domain.specs.declared.domain.Domain.{Domain}
use Rattle.rh_domain.specs.Binding.{Binding, args_in, bindings_in}
use Rattle.rh_ground.specs.Find.{args_to_try, between}
use Rattle.rh_ground.specs.Fixed.{Fixes}
use Rattle.rh_ground.specs.Visit.{Visited, VisitsWanted}
use Rattle.rh_ground.proofs.FindLists.{append_one}
use Rattle.rh_ground.proofs.Finding.{after, at_first, beginning, between_next, between_none}

-- an item passes where one is found
found_any : {X : Type 0} (test : X → Bool) (xs : List X) → is_some (find test xs) ≡ list_any test xs
found_any test [] = refl
found_any {X} test (x ∷ xs) =
    let rest = found_any test xs in
    elim (test x) as (λ b. is_some (cond b (Some x) (find test xs)) ≡ (b || list_any test xs)) [ true ↦ refl | false ↦ rest ]

any_map : {X Y : Type 0} (test : Y → Bool) (f : X → Y) (xs : List X) → list_any test (map f xs) ≡ list_any (λ x. test (f x)) xs
any_map test f [] = refl
any_map test f (x ∷ xs) = ap (λ b. test (f x) || b) (any_map test f xs)

any_same : {X : Type 0} (test other : X → Bool) (xs : List X) → ((x : X) → test x ≡ other x) → list_any test xs ≡ list_any other xs
any_same test other [] same = refl
any_same test other (x ∷ xs) same = ap (λ b. b || list_any test xs) (same x) ∙ ap (λ b. other x || b) (any_same test other xs same)

-- visits that follow one another
pub visited_on : {K : Type 0} (visits : Binding → K → K → Type 0) (xs ys : List Binding) (old mid new : K) → Visited visits xs old mid → Visited visits ys mid new → Visited visits (xs ++ ys) old new
visited_on visits [] ys old mid new first later = subst (λ k. Visited visits ys k new) first later
visited_on visits (x ∷ xs) ys old mid new first later = (first.0, first.1, visited_on visits xs ys first.0 mid new first.2 later)

-- whether a binding is wanted and passes a test
abbrev pub both : (Binding → Bool) → (Binding → Bool) → Binding → Bool
both accepts test binding = accepts binding && test binding

-- one binding that is wanted, or is not
pub visit_one : {K : Type 0} (visits : Binding → K → K → Type 0) (accepts : Binding → Bool) (binding : Binding) (old new : K) → accepts binding ≡ true → visits binding old new → VisitsWanted visits accepts (binding ∷ []) old new
visit_one visits accepts binding old new wanted visit = (binding ∷ [], λ test. ap (λ b. (b && test binding) || false) (sym wanted), (new, visit, refl))

pub visit_none : {K : Type 0} (visits : Binding → K → K → Type 0) (accepts : Binding → Bool) (binding : Binding) (old : K) → accepts binding ≡ false → VisitsWanted visits accepts (binding ∷ []) old old
visit_none visits accepts binding old unwanted = ([], λ test. ap (λ b. (b && test binding) || false) (sym unwanted), refl)

-- the bindings that begin with the arguments that are there
abbrev pub beginning_with : Domain → List Param → Binding → List Binding
beginning_with domain params front = map (λ rest. front ++ rest) (bindings_in domain params)

-- where none are there, these are all
pub all_of_them : (xs : List Binding) → map (λ rest. [] ++ rest) xs ≡ xs
all_of_them [] = refl
all_of_them (x ∷ xs) = ap (λ r. x ∷ r) (all_of_them xs)

module _ {K : Type 0} (visits : Binding → K → K → Type 0) (accepts : Binding → Bool) (domain : Domain) (param : Param) (others : List Param) (front : Binding) where
  -- whether a wanted binding passes, with one of the arguments from a number up to another one
  abbrev pub any_from : (Binding → Bool) → ℕ → ℕ → Bool
  any_from test k end = list_any (after (both accepts test) front) (flat_map (beginning (bindings_in domain others)) (between k end (args_in domain param.kind)))

  -- all wanted bindings with the arguments up to a number have been visited, of which there are these in all
  abbrev pub VisitsBefore : List Binding → ℕ → ℕ → K → K → Type 0
  VisitsBefore bindings k end old new =
      (visited : List Binding) × ((test : Binding → Bool) → (list_any test visited || any_from test k end) ≡ list_any (both accepts test) bindings) × Visited visits visited old new

  module _ (params : List Param) (params_are : params ≡ param ∷ others) where
    abbrev all : List Binding
    all = beginning_with domain params front

    -- at first none has been visited
    pub none_before : (fixed : Option Arg) (meta first end : ℕ) (old : K) → meta ≡ length front → IfSome fixed (Fixes accepts meta)
        → between first end (args_in domain param.kind) ≡ args_to_try fixed (args_in domain param.kind) → VisitsBefore all first end old old
    none_before fixed meta first end old at known tried = (
      [],
      λ test.
          let narrow = IfSome_then fixed known (λ arg is binding passes. is binding (and_parts (accepts binding) (test binding) passes).0) in
          let rests = bindings_in domain params in
          let tested = after (both accepts test) front in
          let narrowed = ap is_some (at_first domain params param others params_are (both accepts test) front fixed meta first end at narrow tried) in
          sym (any_map (both accepts test) (λ rest. front ++ rest) rests ∙ sym (found_any tested rests) ∙ narrowed ∙ found_any tested _),
      refl,
    )

    -- in the end all have been
    pub all_visited : (k end : ℕ) (old new : K) → k ≡ end → VisitsBefore all k end old new → VisitsWanted visits accepts all old new
    all_visited k end old new last so_far = (
      so_far.0,
      λ test.
          let none : any_from test k end ≡ false = ap (λ args. list_any (after (both accepts test) front) (flat_map (beginning (bindings_in domain others)) args)) (between_none (args_in domain param.kind) k end last) in
          sym (or-false (list_any test so_far.0)) ∙ ap (λ b. list_any test so_far.0 || b) (sym none) ∙ so_far.1 test,
      so_far.2,
    )

    -- and with one more argument
    module _ (k end : ℕ) (below : k < end) (arg : Arg) (at : slice_get (args_in domain param.kind) k ≡ Some arg) (pushed : Binding) (pushed_is : pushed ≡ front ++ arg ∷ []) where
      one_more : (test : Binding → Bool) → any_from test k end ≡ (list_any (both accepts test) (beginning_with domain others pushed) || any_from test (k + 1) end)
      one_more test =
          let rests = bindings_in domain others in
          let tested = after (both accepts test) front in
          let later = flat_map (beginning rests) (between (k + 1) end (args_in domain param.kind)) in
          let begun =
          any_map tested (λ rest. arg ∷ rest) rests
          ∙ any_same (λ rest. tested (arg ∷ rest)) (λ rest. both accepts test (pushed ++ rest)) rests (λ rest. ap (both accepts test) (sym (append_one front arg rest) ∙ ap (λ b. b ++ rest) (sym pushed_is)))
          ∙ sym (any_map (both accepts test) (λ rest. pushed ++ rest) rests) in
          ap (λ args. list_any tested (flat_map (beginning rests) args)) (between_next (args_in domain param.kind) k end arg at below)
          ∙ list_any-append tested (beginning rests arg) later
          ∙ ap (λ b. b || list_any tested later) begun

      pub visited_with : (old mid new : K) → VisitsBefore all k end old mid → VisitsWanted visits accepts (beginning_with domain others pushed) mid new → VisitsBefore all (k + 1) end old new
      visited_with old mid new so_far more = (
        so_far.0 ++ more.0,
        λ test.
            ap (λ b. b || any_from test (k + 1) end) (list_any-append test so_far.0 more.0)
            ∙ or_assoc (list_any test so_far.0) (list_any test more.0) (any_from test (k + 1) end)
            ∙ ap (λ b. list_any test so_far.0 || (b || any_from test (k + 1) end)) (more.1 test)
            ∙ ap (λ b. list_any test so_far.0 || b) (sym (one_more test))
            ∙ so_far.1 test,
        visited_on visits so_far.0 more.0 old mid new so_far.2 more.2,
      )
