-- The statements of made programs are in range.
use Rattle.std.proofs.Common.{◌≡◌, ℕ, zero, suc, ◌+◌, ◌-◌, ◌<◌, ◌≤◌, true, List, [], ◌∷◌, ◌++◌, map, length, refl, ap, arith}
use Rattle.std.proofs.lemmas.Bool.{and_from, lt-ltb}
use Rattle.std.proofs.lemmas.Nat.{mod_below}
use Rattle.std.specs.List.{AllByRecursion, range_with_len}
use Rattle.std.specs.Prelude.{◌/◌, ◌^◌, nat_lt, slice_index_or}
use Rattle.rh_il.specs.Checks.{has_numbers, has_targets}
use Rattle.rh_il.specs.declared.program.Stmt.{Stmt}
use Rattle.rh_il.specs.declared.program.Stmt.TheVariants.{Skip}
use Rattle.rh_list.proofs.Appended.{joined}
use Rattle.rh_gen.specs.Draws.{drawn, next}
use Rattle.rh_gen.specs.Generated.{Choice, call_of, choices, made, returning, stmts_from}

-- a statement of a procedure with eight variables and so many statements, in a program of so many procedures
abbrev pub Fits : ℕ → ℕ → Stmt → Type 0
Fits total stmts stmt = (has_numbers total 8 stmt ≡ true) × (has_targets stmts stmt ≡ true)

drawn_below : (limit state : ℕ) → 0 < limit → drawn limit state < limit
drawn_below limit state some = mod_below (state / 2 ^ 33) limit some

picked : {X : Type 0} (P : X → Type 0) (xs : List X) (d : X) (i : ℕ) → AllByRecursion P xs → P d → P (slice_index_or xs i d)
picked P [] d i all otherwise = otherwise
picked P (x ∷ xs) d zero all otherwise = all.0
picked P (x ∷ xs) d (suc i) all otherwise = picked P xs d i all.1 otherwise

module _ (procs : ℕ) (some : 0 < procs) where
  choices_fit : (number to state : ℕ) → number < 39 → to < 8 → AllByRecursion (λ (m : Choice). Fits (procs + 1) 40 m.0) (choices procs number to state)
  choices_fit number to state inside small =
      let first = next state in
      let second = next first in
      let t : nat_lt to 8 ≡ true = lt-ltb to 8 small in
      let x : nat_lt (drawn 8 first) 8 ≡ true = lt-ltb (drawn 8 first) 8 (drawn_below 8 first (omega arith)) in
      let y : nat_lt (drawn 8 second) 8 ≡ true = lt-ltb (drawn 8 second) 8 (drawn_below 8 second (omega arith)) in
      let one = drawn_below (39 - number) first (omega (arith, inside)) in
      let two = drawn_below (39 - number) second (omega (arith, inside)) in
      let called = drawn_below procs first some in
      let taken : nat_lt (number + 1 + drawn (39 - number) first) 40 ≡ true = lt-ltb _ 40 (omega (arith, one, inside)) in
      let other : nat_lt (number + 1 + drawn (39 - number) second) 40 ≡ true = lt-ltb _ 40 (omega (arith, two, inside)) in
      let callee : nat_lt (drawn procs first) (procs + 1) ≡ true = lt-ltb _ (procs + 1) (omega (arith, called)) in
      let with_x = and_from _ _ t x in
      let with_both = and_from _ _ t (and_from _ _ x y) in (
        (and_from _ true t refl, refl),
        (
          (with_x, refl),
          (
            (with_both, refl),
            (
              (with_both, refl),
              (
                (with_x, refl),
                (
                  (with_x, refl),
                  (
                    (with_x, refl),
                    (
                      (t, refl),
                      ((t, and_from _ _ taken other), ((and_from _ _ t (and_from _ _ callee y), refl), tt)),
                    ),
                  ),
                ),
              ),
            ),
          ),
        ),
      )

  made_fits : (number state : ℕ) → number < 39 → Fits (procs + 1) 40 (made procs number state).0
  made_fits number state inside =
      let kind = next state in
      let to = next kind in
      picked (λ (m : Choice). Fits (procs + 1) 40 m.0) (choices procs number (drawn 8 to) to) (Skip, to) (drawn 10 kind)
      (choices_fit number (drawn 8 to) to inside (drawn_below 8 to (omega arith))) (refl, refl)

  stmts_fit : (number count state : ℕ) → number + count ≤ 39 → AllByRecursion (Fits (procs + 1) 40) (stmts_from procs number count state)
  unfolding stmts_from
  stmts_fit number zero state inside = tt
  stmts_fit number (suc count) state inside = (made_fits number state (omega (arith, inside)), stmts_fit (number + 1) count (made procs number state).1 (omega (arith, inside)))

  pub body_fits : (state : ℕ) → AllByRecursion (Fits (procs + 1) 40) (stmts_from procs 0 39 state ++ returning ∷ [])
  body_fits state = joined (Fits (procs + 1) 40) (stmts_from procs 0 39 state) (returning ∷ []) (stmts_fit 0 39 state (omega arith)) ((refl, refl), tt)

pub stmts_count : (procs number count state : ℕ) → length (stmts_from procs number count state) ≡ count
unfolding stmts_from
stmts_count procs number zero state = refl
stmts_count procs number (suc count) state = ap suc (stmts_count procs (number + 1) count (made procs number state).1)

calls_fit : (total stmts from count : ℕ) → from + count ≤ total → AllByRecursion (Fits total stmts) (map call_of (range_with_len from count))
calls_fit total stmts from zero inside = tt
calls_fit total stmts from (suc count) inside = ((and_from (nat_lt from total) true (lt-ltb from total (omega (arith, inside))) refl, refl), calls_fit total stmts (from + 1) count (omega (arith, inside)))

pub main_fits : (procs stmts : ℕ) → AllByRecursion (Fits (procs + 1) stmts) (map call_of (range_with_len 0 procs) ++ returning ∷ [])
main_fits procs stmts = joined (Fits (procs + 1) stmts) (map call_of (range_with_len 0 procs)) (returning ∷ []) (calls_fit (procs + 1) stmts 0 procs (omega arith)) ((refl, refl), tt)
