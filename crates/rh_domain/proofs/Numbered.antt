-- Arguments of a kind by their number.
use Rattle.std.proofs.Common.{ℕ, ℤ, ◌≡◌, ◌≢◌, ◌+◌, ◌<◌, ◌≤◌, List, map, length, Option, Some, None, refl, ap, sym, ◌∙◌, arith}
use Rattle.std.specs.List.{range_with_len}
use Rattle.std.specs.Option.{option_map}
use Rattle.std.specs.Prelude.{slice_get, IfNone}
use Rattle.std.proofs.lemmas.List.FromFn.{get_or-range_with_len, length-range_with_len}
use Rattle.std.proofs.lemmas.List.{length-map}
use Rattle.std.proofs.lemmas.Option.{slice_get-map, slice_get-get_or, slice_get_past, slice_get_within, same_Some}
use Rattle.rh_rule.specs.declared.rule.Arg.{Arg}
use Rattle.rh_rule.specs.declared.rule.Arg.TheVariants.{Var, Const}

pub range_at : (n k : ℕ) → k < n → slice_get (range_with_len 0 n) k ≡ Some k
range_at n k below =
    slice_get-get_or (range_with_len 0 n) k 0 (let size = length-range_with_len 0 n in omega (arith, below, size))
    ∙ ap Some (let same : 0 + k ≡ k = omega arith in get_or-range_with_len 0 n k 0 below ∙ same)

-- the variable with a number
pub var_at : (n k : ℕ) → k < n → slice_get (map Var (range_with_len 0 n)) k ≡ Some (Var k)
var_at n k below = slice_get-map Var (range_with_len 0 n) k ∙ ap (option_map Var) (range_at n k below)

pub var_count : (n : ℕ) → length (map Var (range_with_len 0 n)) ≡ n
var_count n = length-map (range_with_len 0 n) Var ∙ length-range_with_len 0 n

pub no_var_past : (n k : ℕ) → n ≤ k → slice_get (map Var (range_with_len 0 n)) k ≡ None
no_var_past n k past = slice_get_past (map Var (range_with_len 0 n)) k (let size = var_count n in omega (arith, past, size))

-- what stands at a number among the variables is the variable with that number
pub var_of : (n k : ℕ) (arg : Arg) → slice_get (map Var (range_with_len 0 n)) k ≡ Some arg → (arg ≡ Var k) × (k < n)
var_of n k arg read =
    let below : k < n = (let within = slice_get_within _ k arg read in let size = var_count n in omega (arith, within, size)) in
    (same_Some arg (Var k) (sym read ∙ var_at n k below), below)

-- and among the constants the number in that place
pub const_at : (constants : List ℤ) (k : ℕ) (number : ℤ) → slice_get constants k ≡ Some number → slice_get (map Const constants) k ≡ Some (Const number)
const_at constants k number read = slice_get-map Const constants k ∙ ap (option_map Const) read

pub const_of : (constants : List ℤ) (k : ℕ) (number : ℤ) → slice_get (map Const constants) k ≡ Some (Const number) → slice_get constants k ≡ Some number
const_of constants k number read = by (slice_get constants k) refl
  where
    by : (o : Option ℤ) → slice_get constants k ≡ o → o ≡ Some number
    by None is = (let clash : None ≡ Some (Const number) = sym (ap (option_map Const) is) ∙ sym (slice_get-map Const constants k) ∙ read in absurd cc)
    by (Some other) is = (let same : Some (Const other) ≡ Some (Const number) = sym (ap (option_map Const) is) ∙ sym (slice_get-map Const constants k) ∙ read in cc)

-- there are no others
pub no_var_at : (n variable k : ℕ) → n ≤ variable → slice_get (map Var (range_with_len 0 n)) k ≢ Some (Var variable)
no_var_at n variable k past read = let found = var_of n k (Var variable) read in let same : variable ≡ k = (let is = found.0 in cc) in absurd (omega (arith, past, same, found.1))

pub no_const_at : (n k : ℕ) (number : ℤ) → slice_get (map Var (range_with_len 0 n)) k ≢ Some (Const number)
no_const_at n k number read = let is = (var_of n k (Const number) read).0 in absurd cc

pub no_var_among : (constants : List ℤ) (k variable : ℕ) → slice_get (map Const constants) k ≢ Some (Var variable)
no_var_among constants k variable read = by (slice_get constants k) refl
  where
    by : (o : Option ℤ) → slice_get constants k ≡ o → ⊥
    by None is = (let clash : None ≡ Some (Var variable) = sym (ap (option_map Const) is) ∙ sym (slice_get-map Const constants k) ∙ read in absurd cc)
    by (Some other) is = (let clash : Some (Const other) ≡ Some (Var variable) = sym (ap (option_map Const) is) ∙ sym (slice_get-map Const constants k) ∙ read in absurd cc)

-- a number that stands at no place is no constant
pub no_place : (constants : List ℤ) (number : ℤ) (found : Option ℕ) → IfNone found ((place : ℕ) → slice_get constants place ≢ Some number)
    → IfNone found ((k : ℕ) → slice_get (map Const constants) k ≢ Some (Const number))
no_place constants number None none = λ k read. none k (const_of constants k number read)
no_place constants number (Some place) none = tt
