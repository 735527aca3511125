-- The premises of an instance are known on each edge that enters the statement, and so on the one that was taken.
use Rattle.std.proofs.Common.{ℕ, zero, suc, ◌≡◌, ◌+◌, ◌<◌, Bool, true, false, ◌==◌, cond, List, [], ◌∷◌, ◌++◌, length, Some, None, inl, inr, refl, ap, sym, ◌∙◌, subst, arith}
use Rattle.std.specs.List.{All, AllByRecursion, Contains, filter, flat_map, list_all}
use Rattle.std.specs.Option.{option_and_then, option_map_or}
use Rattle.std.specs.Prelude.{IsTrue, slice_get, slice_index_or}
use Rattle.std.proofs.lemmas.Bool.{and_parts, and_from, eq-eqb}
use Rattle.std.proofs.lemmas.Option.{same_Some}
use Rattle.std.proofs.lemmas.List.Elements.{recursion_from_All}
use Rattle.std.proofs.lemmas.List.Folds.{list_all-append}
use Rattle.rh_il.specs.declared.program.Edge.{Edge}
use Rattle.rh_il.specs.declared.program.Node.{Node}
use Rattle.rh_il.specs.declared.program.Node.TheVariants.{Entry, At}
use Rattle.rh_il.specs.declared.program.Proc.{Proc}
use Rattle.rh_il.specs.declared.program.Slot.{Slot}
use Rattle.rh_il.specs.declared.program.Slot.TheVariants.{Out, Then, Else}
use Rattle.rh_il.specs.declared.program.Stmt.{Stmt}
use Rattle.rh_il.specs.declared.program.Stmt.TheVariants.{If, Return}
use Rattle.rh_il.specs.Flow.{edge_target, edges_behind, edges_from, edges_into, edges_of, slot_target, target_in}
use Rattle.rh_rule.specs.declared.rule.FactUse.{FactUse}
use Rattle.rh_domain.specs.Binding.{Binding}
use Rattle.rh_domain.specs.Facts.{Known}
use Rattle.rh_domain.specs.declared.fact.FactAt.{FactAt}
use Rattle.rh_domain.specs.declared.fact.GroundFact.{GroundFact}
use Rattle.rh_ground.specs.Instance.{fact_under}
use Rattle.rh_ground.specs.Rows.{on_edges}
use Rattle.rh_ground.proofs.Members.{IsItem}

-- ---- lists

each_passes : {X : Type 0} (test : X → Bool) (xs : List X) → AllByRecursion (λ x. IsTrue (test x)) xs → list_all test xs ≡ true
each_passes test [] each = refl
each_passes test (x ∷ xs) each = and_from _ _ each.0 (each_passes test xs each.1)

pub all_pass : {X : Type 0} (test : X → Bool) (xs : List X) → All (λ x. IsTrue (test x)) xs → list_all test xs ≡ true
all_pass test xs all = each_passes test xs (recursion_from_All (λ x. IsTrue (test x)) xs all)

item_at : {X : Type 0} (xs : List X) (x : X) (k : ℕ) → k < length xs → slice_index_or xs k x ≡ x → IsItem x xs
item_at [] x k below is = absurd (omega (arith, below))
item_at (y ∷ ys) x zero below is = inl (sym is)
item_at (y ∷ ys) x (suc k) below is = inr (item_at ys x k (omega (arith, below)) is)

pub item_of_contains : {X : Type 0} (xs : List X) (x : X) → Contains xs x → IsItem x xs
item_of_contains xs x has = item_at xs x has.0 has.1 has.2

item_of_front : {X : Type 0} (x : X) (xs ys : List X) → IsItem x xs → IsItem x (xs ++ ys)
item_of_front x [] ys there = absurd there
item_of_front x (z ∷ xs) ys (inl same) = inl same
item_of_front x (z ∷ xs) ys (inr there) = inr (item_of_front x xs ys there)

item_of_back : {X : Type 0} (x : X) (xs ys : List X) → IsItem x ys → IsItem x (xs ++ ys)
item_of_back x [] ys there = there
item_of_back x (z ∷ xs) ys there = inr (item_of_back x xs ys there)

filtered : {X : Type 0} (test : X → Bool) (x : X) (xs : List X) → IsItem x xs → test x ≡ true → IsItem x (filter test xs)
filtered test x [] there passes = absurd there
filtered test x (y ∷ ys) (inl same) passes =
    let first : test y ≡ true = ap test (sym same) ∙ passes in
    subst (λ b. IsItem x (cond b (y ∷ filter test ys) (filter test ys))) (sym first) (inl same)
filtered test x (y ∷ ys) (inr there) passes =
    let rest = filtered test x ys there passes in
    elim (test y) as (λ b. IsItem x (cond b (y ∷ filter test ys) (filter test ys))) [ true ↦ inr rest | false ↦ rest ]

-- what is left of a list passes the test
pub item_of_filter : {X : Type 0} (test : X → Bool) (x : X) (xs : List X) → IsItem x (filter test xs) → IsItem x xs × (test x ≡ true)
item_of_filter test x [] there = absurd there
item_of_filter {X} test x (y ∷ ys) there =
    elim (test y) as (λ b. test y ≡ b → IsItem x (cond b (y ∷ filter test ys) (filter test ys)) → IsItem x (y ∷ ys) × (test x ≡ true)) [
      | true ↦ λ passes item. elim item as (λ _. IsItem x (y ∷ ys) × (test x ≡ true)) [
        | inl same ↦ (inl same, ap test same ∙ passes)
        | inr later ↦ let rest = item_of_filter test x ys later in (inr rest.0, rest.1)
      ]
      | false ↦ λ fails item. let rest = item_of_filter test x ys item in (inr rest.0, rest.1)
    ] refl there

-- ---- edges

-- a way out of a statement is one of its edges
edge_from : (stmt : Stmt) (number : ℕ) (slot : Slot) (n : ℕ) → slot_target stmt number slot ≡ Some n → IsItem (record { node = At number; slot = slot }) (edges_from stmt number)
edge_from (If condition taken other) number Then n is = inl refl
edge_from (If condition taken other) number Else n is = inr (inl refl)
edge_from (If condition taken other) number Out n is = absurd cc
edge_from (Return value) number slot n is = absurd cc
edge_from stmt number Out n is = inl refl
edge_from stmt number slot n is = absurd cc

edge_behind : (edge : Edge) (body : List Stmt) (from k : ℕ) (stmt : Stmt) → slice_get body k ≡ Some stmt → IsItem edge (edges_from stmt (from + k)) → IsItem edge (edges_behind body from)
edge_behind edge [] from k stmt read there = absurd cc
edge_behind edge (first ∷ body) from zero stmt read there =
    let same : first ≡ stmt = same_Some first stmt read in
    let number : from + 0 ≡ from = omega arith in
    item_of_front edge (edges_from first from) (edges_behind body (from + 1))
    (subst (λ s. IsItem edge (edges_from s from)) (sym same) (subst (λ n. IsItem edge (edges_from stmt n)) number there))
edge_behind edge (first ∷ body) from (suc k) stmt read there =
    let number : from + suc k ≡ (from + 1) + k = omega arith in
    item_of_back edge (edges_from first from) (edges_behind body (from + 1))
    (edge_behind edge body (from + 1) k stmt read (subst (λ n. IsItem edge (edges_from stmt n)) number there))

edge_of : (proc : Proc) (node : Node) (slot : Slot) (n : ℕ) → target_in proc.body node slot ≡ Some n → IsItem (record { node = node; slot = slot }) (edges_of proc)
edge_of proc Entry Out n is = inl refl
edge_of proc Entry Then n is = absurd cc
edge_of proc Entry Else n is = absurd cc
edge_of proc (At number) slot n is =
    elim (slice_get proc.body number) as (λ o. slice_get proc.body number ≡ o → option_and_then (λ stmt. slot_target stmt number slot) o ≡ Some n → IsItem (record { node = At number; slot = slot }) (edges_of proc)) [
      | None ↦ λ read told. absurd cc
      | Some stmt ↦ λ read told.
          let count : number ≡ 0 + number = omega arith in
          inr (edge_behind (record { node = At number; slot = slot }) proc.body 0 number stmt read
          (subst (λ k. IsItem (record { node = At number; slot = slot }) (edges_from stmt k)) count (edge_from stmt number slot n told)))
    ] refl is

-- the edge that leads to a statement is one of those that enter it
pub edge_into : (proc : Proc) (edge : Edge) (number : ℕ) → edge_target proc edge ≡ Some number → IsItem edge (edges_into proc number)
edge_into proc edge number is =
    filtered (λ e. option_map_or (λ target. target == number) (edge_target proc e) false) edge (edges_of proc) (edge_of proc edge.node edge.slot number is)
    (ap (λ o. option_map_or (λ target. target == number) o false) is ∙ eq-eqb number number refl)

-- ---- premises

edge_known : (known : Known) (place : ℕ) (fact : GroundFact) (edge : Edge) (edges : List Edge) → list_all known (on_edges place edges fact) ≡ true → IsItem edge edges
    → known (record { proc = place; edge = edge; fact = fact }) ≡ true
edge_known known place fact edge [] all there = absurd there
edge_known known place fact edge (first ∷ edges) all (inl same) = ap (λ e. known (record { proc = place; edge = e; fact = fact })) same ∙ (and_parts _ _ all).0
edge_known known place fact edge (first ∷ edges) all (inr there) = edge_known known place fact edge edges (and_parts _ _ all).1 there

-- premises that are known on all edges are known on one of them, and hold where the facts on it do
pub premises_hold : (known : Known) (place : ℕ) (edge : Edge) (edges : List Edge) (binding : Binding) (test : GroundFact → Bool)
    → IsItem edge edges → ((fact : GroundFact) → IsTrue (known (record { proc = place; edge = edge; fact = fact })) → IsTrue (test fact))
    → (premises : List FactUse) → list_all known (flat_map (λ premise. on_edges place edges (fact_under binding premise)) premises) ≡ true
    → list_all (λ premise. test (fact_under binding premise)) premises ≡ true
premises_hold known place edge edges binding test there hold [] all = refl
premises_hold known place edge edges binding test there hold (premise ∷ premises) all =
    let here : List FactAt = on_edges place edges (fact_under binding premise) in
    let parts = and_parts _ _ (sym (list_all-append known here (flat_map (λ p. on_edges place edges (fact_under binding p)) premises)) ∙ all) in
    and_from _ _ (hold (fact_under binding premise) (edge_known known place (fact_under binding premise) edge edges parts.0 there))
    (premises_hold known place edge edges binding test there hold premises parts.1)
