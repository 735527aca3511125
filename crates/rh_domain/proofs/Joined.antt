-- Bindings by their number.
use Rattle.std.proofs.Common.{ℕ, zero, suc, ◌≡◌, ◌≢◌, ◌+◌, ◌*◌, ◌<◌, ◌≤◌, ◌/◌, ◌%◌, List, [], ◌∷◌, ◌++◌, length, map, get_or, Some, None, refl, ap, sym, ◌∙◌, arith}
use Rattle.std.specs.Prelude.{slice_get, pos}
use Rattle.std.proofs.lemmas.List.{length-map}
use Rattle.std.proofs.Math.Nat.{div-add-mod', div-lt_iff_lt-mul, mul-div_cancel_left, mul-le-mul_right}
use Rattle.std.proofs.lemmas.Option.{slice_get-get_or, slice_get_within}
use Rattle.rh_rule.specs.declared.rule.Arg.TheVariants.{Const}
use Rattle.rh_rule.specs.declared.rule.Arg.{Arg}
use Rattle.rh_rule.specs.declared.schema.Param.{Param}
use Rattle.rh_domain.specs.declared.domain.Domain.{Domain}
use Rattle.rh_domain.specs.Binding.{Binding, args_in, bindings_in}
use Rattle.rh_domain.specs.Count.{binding_count}
use Rattle.rh_domain.proofs.Pieces.{IsPart, even_length, even_read, even_start, first_of, part_of, with_first}

module _ (domain : Domain) where
  -- those that begin with an argument
  abbrev pub beginning : List Param → Arg → List Binding
  beginning params arg = map (λ rest. arg ∷ rest) (bindings_in domain params)

  -- there are as many bindings as are counted
  pub counted : (params : List Param) → length (bindings_in domain params) ≡ binding_count domain params
  counted [] = refl
  counted (param ∷ params) =
      even_length (beginning params) (args_in domain param.kind) (binding_count domain params) (λ arg. length-map (bindings_in domain params) (λ rest. arg ∷ rest) ∙ counted params)

  each_beginning : (params : List Param) (arg : Arg) → length (beginning params arg) ≡ binding_count domain params
  each_beginning params arg = length-map (bindings_in domain params) (λ rest. arg ∷ rest) ∙ counted params

  -- a first argument and the others, each by its number
  pub joined : (param : Param) (params : List Param) (digit number : ℕ) (arg : Arg) (rest : Binding)
      → slice_get (args_in domain param.kind) digit ≡ Some arg → slice_get (bindings_in domain params) number ≡ Some rest
      → slice_get (bindings_in domain (param ∷ params)) (digit * binding_count domain params + number) ≡ Some (arg ∷ rest)
  joined param params digit number arg rest first others =
      even_read (beginning params) (args_in domain param.kind) (binding_count domain params) digit number arg (arg ∷ rest) (each_beginning params) first
      (with_first arg (bindings_in domain params) number rest others)

  -- a binding taken apart: the first argument and the others
  pub record IsJoined (param : Param) (params : List Param) (number : ℕ) (binding : Binding) : Type 0 where
    pub digit : ℕ
    pub left : ℕ
    pub arg : Arg
    pub rest : Binding
    pub first : slice_get (args_in domain param.kind) digit ≡ Some arg
    pub others : slice_get (bindings_in domain params) left ≡ Some rest
    pub whole : binding ≡ arg ∷ rest
    pub number_is : number ≡ digit * binding_count domain params + left

  pub apart : (param : Param) (params : List Param) (number : ℕ) (binding : Binding) → slice_get (bindings_in domain (param ∷ params)) number ≡ Some binding → IsJoined param params number binding
  apart param params number binding read =
      let part : IsPart (beginning params) (args_in domain param.kind) number binding = part_of (beginning params) (args_in domain param.kind) number binding read in
      let inner = first_of part.item (bindings_in domain params) part.within binding part.read in
      let begins = even_start (beginning params) (args_in domain param.kind) (binding_count domain params) part.place (each_beginning params)
      (let within = slice_get_within (args_in domain param.kind) part.place part.item part.item_at in omega (arith, within)) in
      let is = part.number_is in
      record { digit = part.place; left = part.within; arg = part.item; rest = inner.0; first = part.item_at; others = inner.1; whole = inner.2; number_is = omega (arith, is, begins) }

  -- the number of a binding is below the count
  pub number_below : (params : List Param) (number : ℕ) (binding : Binding) → slice_get (bindings_in domain params) number ≡ Some binding → number < binding_count domain params
  number_below params number binding read = let within = slice_get_within (bindings_in domain params) number binding read in let size = counted params in omega (arith, within, size)

  -- no binding of no parameters has an argument
  pub none_without_params : (number : ℕ) (arg : Arg) (rest : Binding) → slice_get (bindings_in domain []) number ≢ Some (arg ∷ rest)
  none_without_params zero arg rest read = cc
  none_without_params (suc number) arg rest read = cc

module _ (domain : Domain) (params : List Param) (param : Param) (others : List Param) (params_are : params ≡ param ∷ others) where
  pub found_joined : (args : Binding) (arg : Arg) (rest : Binding) (digit number count : ℕ) → args ≡ arg ∷ rest
      → slice_get (args_in domain param.kind) digit ≡ Some arg → slice_get (bindings_in domain others) number ≡ Some rest → count ≡ binding_count domain others
      → slice_get (bindings_in domain params) (digit * count + number) ≡ Some args
  found_joined args arg rest digit number count args_are first later count_is =
      ap (λ ps. slice_get (bindings_in domain ps) (digit * count + number)) params_are
      ∙ ap (λ n. slice_get (bindings_in domain (param ∷ others)) (digit * n + number)) count_is
      ∙ joined domain param others digit number arg rest first later ∙ ap Some (sym args_are)

  taken_apart : (args : Binding) (number : ℕ) → slice_get (bindings_in domain params) number ≡ Some args → IsJoined domain param others number args
  taken_apart args number read = apart domain param others number args (ap (λ ps. slice_get (bindings_in domain ps) number) (sym params_are) ∙ read)

  pub no_args : (args : Binding) → args ≡ [] → (number : ℕ) → slice_get (bindings_in domain params) number ≢ Some args
  no_args args args_are number read =
      let found = taken_apart args number read in
      let clash : [] ≡ found.arg ∷ found.rest = sym args_are ∙ found.whole in absurd cc

  pub no_digit : (args : Binding) (arg : Arg) (rest : Binding) → args ≡ arg ∷ rest → ((digit : ℕ) → slice_get (args_in domain param.kind) digit ≢ Some arg)
      → (number : ℕ) → slice_get (bindings_in domain params) number ≢ Some args
  no_digit args arg rest args_are none number read =
      let found = taken_apart args number read in
      let same : arg ∷ rest ≡ found.arg ∷ found.rest = sym args_are ∙ found.whole in
      let first : found.arg ≡ arg = cc in
      none found.digit (found.first ∙ ap Some first)

  pub no_rest : (args : Binding) (arg : Arg) (rest : Binding) → args ≡ arg ∷ rest → ((left : ℕ) → slice_get (bindings_in domain others) left ≢ Some rest)
      → (number : ℕ) → slice_get (bindings_in domain params) number ≢ Some args
  no_rest args arg rest args_are none number read =
      let found = taken_apart args number read in
      let same : arg ∷ rest ≡ found.arg ∷ found.rest = sym args_are ∙ found.whole in
      let later : found.rest ≡ rest = cc in
      none found.left (found.others ∙ ap Some later)

  -- with an argument of the first parameter, there are no fewer bindings of the others
  pub others_fewer : (digit most : ℕ) (arg : Arg) → slice_get (args_in domain param.kind) digit ≡ Some arg → binding_count domain params ≤ most → binding_count domain others ≤ most
  others_fewer digit most arg first few =
      let within : digit < length (args_in domain param.kind) = slice_get_within (args_in domain param.kind) digit arg first in
      let whole : binding_count domain params ≡ length (args_in domain param.kind) * binding_count domain others = ap (binding_count domain) params_are in
      let more : 1 * binding_count domain others ≤ length (args_in domain param.kind) * binding_count domain others = mul-le-mul_right (binding_count domain others) (omega (arith, within)) in
      omega (arith, whole, more, few)

pub empty : {X : Type 0} (xs : List X) → length xs ≡ 0 → xs ≡ []
empty [] size = refl
empty (x ∷ xs) size = absurd (omega (arith, size))

pub one_behind : {X : Type 0} (xs : List X) (x : X) (ys : List X) → (xs ++ x ∷ []) ++ ys ≡ xs ++ x ∷ ys
one_behind [] x ys = refl
one_behind (z ∷ xs) x ys = ap (λ r. z ∷ r) (one_behind xs x ys)

-- a number below the count, by its first digit and what is left
module _ (domain : Domain) (params : List Param) (param : Param) (others : List Param) (params_are : params ≡ param ∷ others) (count number size : ℕ)
    (count_is : count ≡ binding_count domain params) (below : number < count) (size_is : size ≡ length (args_in domain param.kind)) where
  whole : count ≡ size * binding_count domain others
  whole = count_is ∙ ap (binding_count domain) params_are ∙ ap (λ n. n * binding_count domain others) (sym size_is)

  pub some_args : 0 < size
  some_args = by size refl
    where
      by : (n : ℕ) → size ≡ n → 0 < size
      by zero is = (let none : count ≡ 0 * binding_count domain others = whole ∙ ap (λ n. n * binding_count domain others) is in let same : 0 * binding_count domain others ≡ 0 = omega arith in absurd (omega (arith, none, same, below)))
      by (suc n) is = omega (arith, is)

  pub stride_is : count / size ≡ binding_count domain others
  stride_is = ap (λ n. n / size) whole ∙ mul-div_cancel_left (binding_count domain others) some_args

  pub some_others : 0 < count / size
  some_others = by (count / size) refl
    where
      by : (n : ℕ) → count / size ≡ n → 0 < count / size
      by zero is = (let none : count ≡ size * 0 = whole ∙ ap (λ n. size * n) (sym stride_is ∙ is) in let same : size * 0 ≡ 0 = omega arith in absurd (omega (arith, none, same, below)))
      by (suc n) is = omega (arith, is)

  pub digits_of : number ≡ number / (count / size) * (count / size) + number % (count / size)
  digits_of = sym (div-add-mod' number (count / size))

  pub digit_below : number / (count / size) < size
  digit_below = (div-lt_iff_lt-mul some_others).1 (let same : count ≡ size * (count / size) = whole ∙ ap (λ n. size * n) (sym stride_is) in omega (arith, same, below))

  pub no_such_digit : slice_get (args_in domain param.kind) (number / (count / size)) ≡ None → ⊥
  no_such_digit none =
      let there = slice_get-get_or (args_in domain param.kind) (number / (count / size)) (Const (pos 0)) (let less = digit_below in omega (arith, less, size_is)) in
      let clash : None ≡ Some (get_or (args_in domain param.kind) (number / (count / size)) (Const (pos 0))) = sym none ∙ there in absurd cc
