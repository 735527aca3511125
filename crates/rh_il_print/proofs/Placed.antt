-- A name that stands once in a list has its place there.
use Rattle.std.proofs.Common.{◌≡◌, ℕ, zero, suc, ◌<◌, ◌≤◌, ◌^◌, Bool, true, false, not, ◌||◌, List, [], ◌∷◌, length, take, map, get_or, Option, Some, refl, sym, ap, ◌∙◌, subst, arith}
use Rattle.std.proofs.lemmas.Bool.{or_parts, or_left, or_right, lt-ltb, not-true}
use Rattle.std.proofs.lemmas.Option.{slice_get-get_or, slice_get_within, same_Some}
use Rattle.std.proofs.lemmas.Slice.Eq.{bytes_eq-Decides}
use Rattle.std.specs.Prelude.{slice_get}
use Rattle.std.specs.List.{list_any, position, prefix_len}
use Rattle.std.specs.Option.{option_map_or}
use Rattle.std.specs.Str.{bytes_eq}
use Rattle.rh_il.specs.declared.program.Proc.{Proc}
use Rattle.rh_il.specs.Checks.{is_called, is_new_at, is_new_proc_at}
use Rattle.rh_il_print.specs.Text.{name_at, proc_name}
use Rattle.rh_il_text.specs.Known.{is_known, place_of}

bytes_same : (bytes : List ℕ) → bytes_eq bytes bytes ≡ true
bytes_same bytes = (bytes_eq-Decides bytes bytes).1 refl

-- no item before it passes
first_place : {X : Type 0} (p : X → Bool) (xs : List X) (i : ℕ) (x : X) → slice_get xs i ≡ Some x → list_any p (take i xs) ≡ false → p x ≡ true → prefix_len (λ y. not (p y)) xs ≡ i
first_place p [] i x read none here = absurd cc
first_place p (y ∷ ys) zero x read none here =
    let passes : p y ≡ true = ap p (same_Some y x read) ∙ here in rw passes refl
first_place p (y ∷ ys) (suc i) x read none here =
    let parts = or_parts (p y) (list_any p (take i ys)) none in
    let rest = first_place p ys i x read parts.1 here in
    rw parts.0 (omega arith)

placed : {X : Type 0} (p : X → Bool) (xs : List X) (i : ℕ) (x : X) → slice_get xs i ≡ Some x → list_any p (take i xs) ≡ false → p x ≡ true → position p xs ≡ Some i
placed p xs i x read none here =
    rw (first_place p xs i x read none here, lt-ltb i (length xs) (slice_get_within xs i x read)) refl

any_at : {X : Type 0} (p : X → Bool) (xs : List X) (i : ℕ) (x : X) → slice_get xs i ≡ Some x → p x ≡ true → list_any p xs ≡ true
any_at p [] i x read here = absurd cc
any_at p (y ∷ ys) zero x read here = or_left (p y) (list_any p ys) (ap p (same_Some y x read) ∙ here)
any_at p (y ∷ ys) (suc i) x read here = or_right (p y) (list_any p ys) (any_at p ys i x read here)

-- the number of a name
place_back : (names : List (List ℕ)) (i : ℕ) (name : List ℕ) → slice_get names i ≡ Some name → list_any (bytes_eq name) (take i names) ≡ false → i < 2 ^ 32 → place_of names name ≡ i
place_back names i name read new small = rw (placed (bytes_eq name) names i name read new (bytes_same name), lt-ltb i (2 ^ 32) small) refl

pub name_is : (names : List (List ℕ)) (i : ℕ) → i < length names → slice_get names i ≡ Some (name_at names i)
name_is names i lt =
    let read = slice_get-get_or names i [] lt in
    read ∙ ap (λ (name : List ℕ). Some name) (sym (ap (λ (o : Option (List ℕ)). option_map_or (λ name. name) o []) read))

-- a variable whose name no earlier one has
pub var_back : (vars : List (List ℕ)) (x : ℕ) → x < length vars → length vars ≤ 64 → is_new_at vars x ≡ true → place_of vars (name_at vars x) ≡ x
var_back vars x lt few new =
    let read = slice_get-get_or vars x [] lt in
    let is : get_or vars x [] ≡ name_at vars x = sym (ap (λ (o : Option (List ℕ)). option_map_or (λ name. name) o []) read) in
    place_back vars x (name_at vars x) (name_is vars x lt) (subst (λ name. list_any (bytes_eq name) (take x vars) ≡ false) is (not-true _ new)) (omega arith)

pub var_known : (vars : List (List ℕ)) (x : ℕ) → x < length vars → is_known vars (name_at vars x) ≡ true
var_known vars x lt = any_at (bytes_eq (name_at vars x)) vars x (name_at vars x) (name_is vars x lt) (bytes_same (name_at vars x))

-- ---- the names of procedures

abbrev pub called : List Proc → List (List ℕ)
called procs = map (λ p. p.name) procs

called_at : (procs : List Proc) (i : ℕ) (p : Proc) → slice_get procs i ≡ Some p → slice_get (called procs) i ≡ Some p.name
called_at [] i p read = absurd cc
called_at (q ∷ qs) zero p read = ap (λ (r : Proc). Some r.name) (same_Some q p read)
called_at (q ∷ qs) (suc i) p read = called_at qs i p read

any_called : (name : List ℕ) (procs : List Proc) (i : ℕ) → list_any (bytes_eq name) (take i (called procs)) ≡ list_any (is_called name) (take i procs)
any_called name procs zero = refl
any_called name [] (suc i) = refl
any_called name (q ∷ qs) (suc i) = ap (λ b. bytes_eq name q.name || b) (any_called name qs i)

-- a procedure whose name no earlier one has
pub proc_back : (procs : List Proc) (i : ℕ) (p : Proc) → slice_get procs i ≡ Some p → length procs ≤ 256 → is_new_proc_at procs i ≡ true → place_of (called procs) (proc_name procs i) ≡ i
proc_back procs i p read few new =
    let named : proc_name procs i ≡ p.name = ap (λ (o : Option Proc). option_map_or (λ q. q.name) o []) read in
    let test : not (list_any (is_called p.name) (take i procs)) ≡ true =
    ap (λ (o : Option Proc). option_map_or (λ q. not (list_any (is_called q.name) (take i procs))) o true) (sym read) ∙ new in
    let below = slice_get_within procs i p read in
    ap (place_of (called procs)) named
    ∙ place_back (called procs) i p.name (called_at procs i p read) (any_called p.name procs i ∙ not-true _ test) (omega arith)

pub proc_known : (procs : List Proc) (i : ℕ) (p : Proc) → slice_get procs i ≡ Some p → is_known (called procs) (proc_name procs i) ≡ true
proc_known procs i p read =
    let named : proc_name procs i ≡ p.name = ap (λ (o : Option Proc). option_map_or (λ q. q.name) o []) read in
    ap (is_known (called procs)) named ∙ any_at (bytes_eq p.name) (called procs) i p.name (called_at procs i p read) (bytes_same p.name)
