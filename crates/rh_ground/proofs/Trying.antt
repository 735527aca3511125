-- The ranges of numbers to be tried, one parameter after another.
use Rattle.std.proofs.Common.{ℕ, zero, suc, ◌≡◌, ◌+◌, ◌<◌, ◌≤◌, ◌⊎◌, inl, inr, Bool, List, [], ◌∷◌, ◌++◌, length, Option, Some, refl, ap, sym, ◌∙◌, subst, arith}
use Rattle.std.specs.Prelude.{IfSome, slice_get}
use Rattle.std.proofs.Math.ListN.{length-append}
use Rattle.std.proofs.lemmas.Bool.{cases_eq}
use Rattle.std.proofs.lemmas.Option.{same_Some, slice_get_within}
use Rattle.rh_rule.specs.declared.rule.Arg.{Arg}
use Rattle.rh_rule.specs.declared.schema.Param.{Param}
use Rattle.rh_domain.specs.declared.domain.Domain.{Domain}
use Rattle.rh_domain.specs.Binding.{Binding, args_in}
use Rattle.rh_ground.specs.Find.{AreToTry, IsToTry, args_to_try, between}
use Rattle.rh_ground.specs.Fixed.{Fixes}

-- an item of a list to which one was added
at_end : {X : Type 0} (xs : List X) (x y : X) (k : ℕ) → k ≡ length xs → slice_get (xs ++ x ∷ []) k ≡ Some y → x ≡ y
at_end [] x y zero at read = same_Some x y read
at_end [] x y (suc k) at read = absurd (omega (arith, at))
at_end (z ∷ xs) x y zero at read = absurd (omega (arith, at))
at_end (z ∷ xs) x y (suc k) at read = at_end xs x y k (omega (arith, at)) read

before_end : {X : Type 0} (xs : List X) (x : X) (k : ℕ) → k < length xs → slice_get (xs ++ x ∷ []) k ≡ slice_get xs k
before_end [] x k below = absurd (omega (arith, below))
before_end (z ∷ xs) x zero below = refl
before_end (z ∷ xs) x (suc k) below = before_end xs x k (omega (arith, below))

module _ (domain : Domain) (accepts : Binding → Bool) where
  -- so many parameters have their ranges
  pub record AreTriedBefore (params : List Param) (count : ℕ) (ranges : List (ℕ × ℕ)) : Type 0 where
    pub many : length ranges ≡ count
    pub each : (k : ℕ) (param : Param) (range : ℕ × ℕ) → slice_get params k ≡ Some param → slice_get ranges k ≡ Some range → IsToTry domain accepts k param.kind range

  pub none_tried : (params : List Param) (ranges : List (ℕ × ℕ)) → ranges ≡ [] → AreTriedBefore params 0 ranges
  none_tried params ranges none = record {
    many = ap length none;
    each = λ k param range at read. let clash = slice_get_within ranges k range read in let size = ap length none in absurd (omega (arith, clash, size));
  }

  -- with one more
  module _ (params : List Param) (count : ℕ) (ranges more : List (ℕ × ℕ)) (before : AreTriedBefore params count ranges) (param : Param) (param_at : slice_get params count ≡ Some param)
      (fixed : Option Arg) (range : ℕ × ℕ) (known : IfSome fixed (Fixes accepts count)) (tried : between range.0 range.1 (args_in domain param.kind) ≡ args_to_try fixed (args_in domain param.kind))
      (within : range.1 ≤ length (args_in domain param.kind)) (more_is : more ≡ ranges ++ range ∷ []) where
    here : IsToTry domain accepts count param.kind range
    here = record { fixed = fixed; known = known; tried = tried; within = within }

    size : length more ≡ count + 1
    size = (let whole = ap length more_is ∙ length-append ranges (range ∷ []) in let many = before.many in omega (arith, whole, many))

    each_more : (k : ℕ) (other : Param) (at : ℕ × ℕ) → slice_get params k ≡ Some other → slice_get more k ≡ Some at → (k ≡ count) ⊎ (k ≡ count → ⊥) → IsToTry domain accepts k other.kind at
    each_more k other at param_there read (inl same) =
        let one : range ≡ at = at_end ranges range at k (same ∙ sym before.many) (ap (λ rs. slice_get rs k) (sym more_is) ∙ read) in
        let kind : param ≡ other = same_Some param other (sym param_at ∙ ap (slice_get params) (sym same) ∙ param_there) in
        subst (λ n. IsToTry domain accepts n other.kind at) (sym same) (subst (λ (p : Param). IsToTry domain accepts count p.kind at) kind (subst (λ (r : ℕ × ℕ). IsToTry domain accepts count param.kind r) one here))
    each_more k other at param_there read (inr apart) =
        let inside = slice_get_within more k at read in
        let below : k < length ranges = (let all = size in let many = before.many in omega (arith, inside, all, many, apart)) in
        before.each k other at param_there (sym (before_end ranges range k below) ∙ ap (λ rs. slice_get rs k) (sym more_is) ∙ read)

    pub one_more_tried : AreTriedBefore params (count + 1) more
    one_more_tried = record { many = size; each = λ k other at param_there read. each_more k other at param_there read (cases_eq k count) }

  pub all_tried : (params : List Param) (count : ℕ) (ranges : List (ℕ × ℕ)) → count ≡ length params → AreTriedBefore params count ranges → AreToTry domain accepts 0 params ranges
  all_tried params count ranges last before = record {
    many = (let many = before.many in omega (arith, many, last));
    each = λ k param range at read.
        let same : 0 + k ≡ k = omega arith in
        subst (λ n. IsToTry domain accepts n param.kind range) (sym same) (before.each k param range at (ap (slice_get ranges) (sym same) ∙ read));
  }

  -- the first of the parameters that are left, and the others
  module _ (first : ℕ) (params : List Param) (param : Param) (others : List Param) (ranges : List (ℕ × ℕ)) (params_are : params ≡ param ∷ others) (are : AreToTry domain accepts first params ranges) where
    pub first_tried : (range : ℕ × ℕ) → slice_get ranges first ≡ Some range → IsToTry domain accepts first param.kind range
    first_tried range read =
        let same : first + 0 ≡ first = omega arith in
        subst (λ n. IsToTry domain accepts n param.kind range) same (are.each 0 param range (ap (λ (ps : List Param). slice_get ps 0) params_are) (ap (slice_get ranges) same ∙ read))

    pub first_there : first < length ranges
    first_there = (let many = are.many in let size = ap length params_are in omega (arith, many, size))

    pub others_tried : (next : ℕ) → next ≡ first + 1 → AreToTry domain accepts next others ranges
    others_tried next is = record {
      many = (let many = are.many in let size = ap length params_are in omega (arith, many, size, is));
      each = λ k other range at read.
          let same : first + suc k ≡ next + k = omega (arith, is) in
          subst (λ n. IsToTry domain accepts n other.kind range) same (are.each (suc k) other range (ap (λ (ps : List Param). slice_get ps (suc k)) params_are ∙ at) (ap (slice_get ranges) same ∙ read));
    }
