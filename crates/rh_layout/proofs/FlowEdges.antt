-- The edges of a procedure: each stands at one place, and there are at most two for each statement.
use Rattle.std.proofs.Common.{ℕ, zero, suc, ◌≡◌, ◌+◌, ◌*◌, ◌≤◌, List, [], ◌∷◌, length, Some, refl, ap, sym, ◌∙◌, arith, ⊎_elim}
use Rattle.std.specs.Int.{div_ceil}
use Rattle.std.specs.Prelude.{slice_get}
use Rattle.std.proofs.Math.ListN.{length-append}
use Rattle.std.proofs.Math.Nat.{mul-le-mul}
use Rattle.std.proofs.lemmas.Option.{same_Some}
use Rattle.rh_il.specs.declared.program.Stmt.{Stmt}
use Rattle.rh_il.specs.declared.program.Stmt.TheVariants.{If, Return}
use Rattle.rh_il.specs.declared.program.Proc.{Proc}
use Rattle.rh_il.specs.declared.program.Node.TheVariants.{Entry, At}
use Rattle.rh_il.specs.declared.program.Slot.TheVariants.{Out, Then, Else}
use Rattle.rh_il.specs.declared.program.Edge.{Edge}
use Rattle.rh_il.specs.Checks.{ProcPassed}
use Rattle.rh_il.specs.Flow.{edges_behind, edges_from, edges_of}
use Rattle.rh_domain.proofs.Pieces.{get_side}

-- a list in which each item stands at one place
abbrev AreApart : List Edge → Type 0
AreApart xs = (i j : ℕ) (x : Edge) → slice_get xs i ≡ Some x → slice_get xs j ≡ Some x → i ≡ j

none_apart : AreApart []
none_apart i j x one two = absurd cc

one_apart : (a : Edge) → AreApart (a ∷ [])
one_apart a zero zero x one two = refl
one_apart a zero (suc j) x one two = absurd cc
one_apart a (suc i) j x one two = absurd cc

not_both : (number : ℕ) (x : Edge) → record { node = At number; slot = Then } ≡ x → record { node = At number; slot = Else } ≡ x → ⊥
not_both number x one two = let clash : Then ≡ Else = ap (λ (e : Edge). e.slot) one ∙ sym (ap (λ (e : Edge). e.slot) two) in absurd cc

two_apart : (number : ℕ) → AreApart (record { node = At number; slot = Then } ∷ record { node = At number; slot = Else } ∷ [])
two_apart number zero zero x one two = refl
two_apart number zero (suc zero) x one two =
    absurd (not_both number x (same_Some (record { node = At number; slot = Then }) x one) (same_Some (record { node = At number; slot = Else }) x two))
two_apart number zero (suc (suc j)) x one two = absurd cc
two_apart number (suc zero) zero x one two =
    absurd (not_both number x (same_Some (record { node = At number; slot = Then }) x two) (same_Some (record { node = At number; slot = Else }) x one))
two_apart number (suc zero) (suc zero) x one two = refl
two_apart number (suc zero) (suc (suc j)) x one two = absurd cc
two_apart number (suc (suc i)) j x one two = absurd cc

from_apart : (stmt : Stmt) (number : ℕ) → AreApart (edges_from stmt number)
from_apart (If cond taken other) number = two_apart number
from_apart (Return value) number = none_apart
from_apart stmt number = one_apart (record { node = At number; slot = Out })

from_few : (stmt : Stmt) (number : ℕ) → length (edges_from stmt number) ≤ 2
from_few (If cond taken other) number = omega arith
from_few (Return value) number = omega arith
from_few stmt number = omega arith

one_node : (number i : ℕ) (x a : Edge) → a.node ≡ At number → slice_get (a ∷ []) i ≡ Some x → x.node ≡ At number
one_node number zero x a is read = ap (λ (e : Edge). e.node) (sym (same_Some a x read)) ∙ is
one_node number (suc i) x a is read = absurd cc

two_node : (number i : ℕ) (x a b : Edge) → a.node ≡ At number → b.node ≡ At number → slice_get (a ∷ b ∷ []) i ≡ Some x → x.node ≡ At number
two_node number zero x a b is same read = ap (λ (e : Edge). e.node) (sym (same_Some a x read)) ∙ is
two_node number (suc i) x a b is same read = one_node number i x b same read

from_node : (stmt : Stmt) (number i : ℕ) (x : Edge) → slice_get (edges_from stmt number) i ≡ Some x → x.node ≡ At number
from_node (If cond taken other) number i x read = two_node number i x _ _ refl refl read
from_node (Return value) number i x read = absurd cc
from_node stmt number i x read = one_node number i x (record { node = At number; slot = Out }) refl read

behind_node : (body : List Stmt) (number i : ℕ) (x : Edge) → slice_get (edges_behind body number) i ≡ Some x → (later : ℕ) × (x.node ≡ At (number + later))
behind_node [] number i x read = absurd cc
behind_node (stmt ∷ body) number i x read =
    ⊎_elim (λ front. (0, from_node stmt number i x front ∙ ap At (let same : number ≡ number + 0 = omega arith in same)))
    (λ back. let rest = behind_node body (number + 1) back.0 x back.2 in (suc rest.0, rest.1 ∙ ap At (let same : (number + 1) + rest.0 ≡ number + suc rest.0 = omega arith in same)))
    (get_side (edges_from stmt number) (edges_behind body (number + 1)) i x read)

-- an edge of a statement is none of those of later ones
not_later : (stmt : Stmt) (body : List Stmt) (number i j : ℕ) (x : Edge) → slice_get (edges_from stmt number) i ≡ Some x → slice_get (edges_behind body (number + 1)) j ≡ Some x → ⊥
not_later stmt body number i j x one two =
    let rest = behind_node body (number + 1) j x two in
    let same : At number ≡ At ((number + 1) + rest.0) = sym (from_node stmt number i x one) ∙ rest.1 in
    let is : number ≡ (number + 1) + rest.0 = cc in
    absurd (omega (arith, is))

behind_apart : (body : List Stmt) (number : ℕ) → AreApart (edges_behind body number)
behind_apart [] number i j x one two = absurd cc
behind_apart (stmt ∷ body) number i j x one two =
    let rest = edges_behind body (number + 1) in
    ⊎_elim
    (λ front. ⊎_elim (λ also. from_apart stmt number i j x front also) (λ back. absurd (not_later stmt body number i back.0 x front back.2)) (get_side (edges_from stmt number) rest j x two))
    (λ back. ⊎_elim (λ front. absurd (not_later stmt body number j back.0 x front back.2))
    (λ also. let same = behind_apart body (number + 1) back.0 also.0 x back.2 also.2 in let left = back.1 in let right = also.1 in omega (arith, same, left, right))
    (get_side (edges_from stmt number) rest j x two))
    (get_side (edges_from stmt number) rest i x one)

behind_few : (body : List Stmt) (number : ℕ) → length (edges_behind body number) ≤ 2 * length body
behind_few [] number = omega arith
behind_few (stmt ∷ body) number =
    let here = from_few stmt number in
    let rest = behind_few body (number + 1) in
    let size = length-append (edges_from stmt number) (edges_behind body (number + 1)) in
    omega (arith, here, rest, size)

not_entry : (body : List Stmt) (j : ℕ) (x : Edge) → record { node = Entry; slot = Out } ≡ x → slice_get (edges_behind body 0) j ≡ Some x → ⊥
not_entry body j x is read =
    let rest = behind_node body 0 j x read in
    let clash : Entry ≡ At (0 + rest.0) = ap (λ (e : Edge). e.node) is ∙ rest.1 in absurd cc

pub edges_apart : (proc : Proc) (i j : ℕ) (x : Edge) → slice_get (edges_of proc) i ≡ Some x → slice_get (edges_of proc) j ≡ Some x → i ≡ j
edges_apart proc zero zero x one two = refl
edges_apart proc zero (suc j) x one two = absurd (not_entry proc.body j x (same_Some _ x one) two)
edges_apart proc (suc i) zero x one two = absurd (not_entry proc.body i x (same_Some _ x two) one)
edges_apart proc (suc i) (suc j) x one two = ap suc (behind_apart proc.body 0 i j x one two)

pub edges_few : (proc : Proc) (most : ℕ) → length proc.body ≤ most → length (edges_of proc) ≤ 1 + 2 * most
edges_few proc most few = let rest = behind_few proc.body 0 in omega (arith, rest, few)

-- a procedure of a program has few of them, and they have few words
pub edges_size : (proc : Proc) (body : List Stmt) (size : ℕ) → ProcPassed proc → body ≡ proc.body → size ≡ length (record { node = Entry; slot = Out } ∷ edges_behind body 0) → size ≤ 2049
edges_size proc body size passed same is =
    let few = edges_few proc 1024 passed.body in
    let whole : length (edges_behind body 0) ≡ length (edges_behind proc.body 0) = ap (λ b. length (edges_behind b 0)) same in
    omega (arith, few, whole, is)

few_wide : (count : ℕ) → count ≤ 65536 → div_ceil count 64 ≤ 1024
few_wide count few = grind (arith, few)

pub words_size : (size width count : ℕ) → size ≤ 2049 → width ≡ div_ceil count 64 → count ≤ 65536 → size * width ≤ 2098176
words_size size width count short is few = let low = few_wide count few in mul-le-mul short (let less : width ≤ 1024 = omega (arith, is, low) in less)
