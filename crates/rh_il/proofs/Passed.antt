-- What procedures that pass every check are known to have.
use Rattle.std.proofs.Common.{◌≡◌, ℕ, zero, suc, ◌+◌, ◌<◌, ◌≤◌, Bool, true, false, cond, not, ◌||◌, List, [], ◌∷◌, length, Option, Some, None, refl, sym, ap, ◌∙◌, subst, arith, ⊎_elim, codes}
use Rattle.std.proofs.lemmas.Bool.{leb-true, lt-ltb, cases_lt, and_parts, false≢true}
use Rattle.std.proofs.lemmas.Option.{slice_get_within}
use Rattle.std.specs.Borrow.{Bor}
use Rattle.std.specs.Prelude.{slice_get, option_copied, IfSome}
use Rattle.std.specs.List.{list_any, position, prefix_len}
use Rattle.std.specs.Option.{option_or, option_and_then}
use Rattle.rh_il.specs.declared.program.Proc.{Proc}
use Rattle.rh_il.specs.declared.fault.ProgWrong.{ProgWrong}
use Rattle.rh_il.specs.Checks.{first_some, unless, is_called, proc_fault, program_fault, ProcPassed}

some_same : (a b : ℕ) → ◌≡◌ {A = Option ℕ} (Some a) (Some b) → a ≡ b
some_same a b h = cc

pub none_parts : {X : Type 0} (a b : Option X) → option_or a b ≡ None → (a ≡ None) × (b ≡ None)
none_parts None b h = (refl, h)
none_parts (Some x) b h = absurd cc

pub passes : (t : Bool) (kind : ProgWrong) (proc item : ℕ) → unless t kind proc item ≡ None → t ≡ true
passes true kind proc item h = refl
passes false kind proc item h = absurd cc

-- what isn't there among so many is at none of their places
pub none_at : {X : Type 0} (n : ℕ) (found : ℕ → Option X) (k : ℕ) → first_some n found ≡ None → k < n → found k ≡ None
none_at zero found k h lt = absurd (omega arith)
none_at (suc n) found k h lt =
    let parts = none_parts (first_some n found) (found n) h in
    ⊎_elim (λ earlier. none_at n found k parts.0 earlier)
    (λ last. let same : k ≡ n = omega arith in ap found same ∙ parts.1)
    (cases_lt k n)

-- the parts of the checks of a program
pub record Passed (procs : List Proc) : Type 0 where
  pub few : length procs ≤ 256
  pub each : first_some (length procs) (λ proc. option_and_then (proc_fault (length procs) proc) (slice_get procs proc)) ≡ None
  pub main : list_any (is_called (codes "main")) procs ≡ true

pub passed : (procs : List Proc) → program_fault procs ≡ None → Passed procs
unfolding program_fault
passed procs h =
    let a = none_parts _ _ h in
    let b = none_parts _ _ a.1 in
    let c = none_parts _ _ b.1 in
    record {
      few = leb-true _ _ (passes _ _ _ _ a.0);
      each = c.0;
      main = passes _ _ _ _ c.1;
    }

before_passes : {X : Type 0} (p : X → Bool) (xs : List X) → list_any p xs ≡ true → prefix_len (λ x. not (p x)) xs < length xs
before_passes p [] h = absurd (false≢true h)
before_passes p (x ∷ xs) h =
    elim (p x) as (λ b. (b || list_any p xs) ≡ true → cond (not b) (1 + prefix_len (λ y. not (p y)) xs) 0 < suc (length xs))
    [ true ↦ λ _. omega arith | false ↦ λ rest. let low = before_passes p xs rest in omega arith ] h

-- the first that passes has a place
pub placed : {X : Type 0} (p : X → Bool) (xs : List X) → list_any p xs ≡ true → position p xs ≡ Some (prefix_len (λ x. not (p x)) xs)
placed p xs h = rw (lt-ltb _ _ (before_passes p xs h)) refl

pub placed_below : {X : Type 0} (p : X → Bool) (xs : List X) (k : ℕ) → list_any p xs ≡ true → position p xs ≡ Some k → k < length xs
placed_below p xs k h e =
    let both : ◌≡◌ {A = Option ℕ} (Some (prefix_len (λ x. not (p x)) xs)) (Some k) = sym (placed p xs h) ∙ e in
    subst (λ n. n < length xs) (some_same _ k both) (before_passes p xs h)

pub placed_some : {X : Type 0} (p : X → Bool) (xs : List X) → list_any p xs ≡ true → position p xs ≡ None → ⊥
placed_some p xs h none = let some = placed p xs h in cc

-- one procedure of a program passes its checks
pub proc_passed : (procs : List Proc) (number : ℕ) (proc : Proc) → Passed procs → slice_get procs number ≡ Some proc → proc_fault (length procs) number proc ≡ None
proc_passed procs number proc passed read =
    let there = none_at _ _ number passed.each (slice_get_within procs number proc read) in
    ap (option_and_then (proc_fault (length procs) number)) (sym read) ∙ there

pub proc_parts : (procs number : ℕ) (proc : Proc) → proc_fault procs number proc ≡ None → ProcPassed proc
unfolding proc_fault
proc_parts procs number proc h =
    let a = none_parts _ _ h in
    let b = none_parts _ _ a.1 in
    let c = none_parts _ _ b.1 in
    let vars = and_parts _ _ (passes _ _ _ _ a.0) in
    record { vars = leb-true _ _ vars.1; body = leb-true _ _ (passes _ _ _ _ c.0) }

-- what is read of a program passes the checks of a procedure
pub read_passed : (procs : List Proc) (number : ℕ) (r : Option (Bor Proc)) → program_fault procs ≡ None → option_copied r ≡ slice_get procs number → IfSome r (λ p. ProcPassed p.now)
read_passed procs number None passes read = tt
read_passed procs number (Some p) passes read =
    proc_parts (length procs) number p.now (proc_passed procs number p.now (passed procs passes) (sym read))
