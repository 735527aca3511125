-- The numbers of the edges that enter a statement.
use Rattle.std.proofs.Common.{ℕ, suc, ◌≡◌, ◌+◌, ◌<◌, ◌≤◌, ◌==◌, Bool, true, false, List, [], ◌∷◌, ◌++◌, length, take, filter, Option, Some, None, refl, ap, sym, ◌∙◌, subst, arith}
use Rattle.std.specs.List.{list_all}
use Rattle.std.specs.Option.{option_and_then, option_map_or}
use Rattle.std.specs.Prelude.{◌&&◌, slice_get, slice_index_or, if◌then◌else◌}
use Rattle.std.proofs.lemmas.Bool.{eq-eqb, eqb-true}
use Rattle.std.proofs.lemmas.List.{append-nil, get_or-set_other, get_or-set_same, length-set, length-take-le, take_all, take_more}
use Rattle.std.proofs.lemmas.Option.{get_or_from_slice_get, slice_get_within}
use Rattle.rh_il.specs.declared.program.Edge.{Edge}
use Rattle.rh_il.specs.declared.program.Proc.{Proc}
use Rattle.rh_il.specs.Flow.{edge_target, edges_into, edges_of}
use Rattle.rh_layout.specs.Entering.{AreEntering, enters, numbers_into, places_from, with_number}

-- the place of one more item
abbrev here : {X : Type 0} → (X → Bool) → ℕ → X → List ℕ
here test n x = if test x then n ∷ [] else []

pub places_more : {X : Type 0} (test : X → Bool) (n : ℕ) (xs : List X) (x : X) → places_from test n (xs ++ x ∷ []) ≡ places_from test n xs ++ here test (n + length xs) x
places_more test n [] x = elim (test x) as (λ b. (if b then n ∷ [] else []) ≡ (if b then (n + 0) ∷ [] else [])) [ true ↦ ap (λ k. k ∷ []) (omega arith) | false ↦ refl ]
places_more test n (y ∷ ys) x =
    let rest = places_more test (n + 1) ys x in
    let same : (n + 1) + length ys ≡ n + length (y ∷ ys) = omega arith in
    let whole = rest ∙ ap (λ k. places_from test (n + 1) ys ++ here test k x) same in
    elim (test y) as (λ b. (if b then n ∷ places_from test (n + 1) (ys ++ x ∷ []) else places_from test (n + 1) (ys ++ x ∷ []))
    ≡ (if b then n ∷ places_from test (n + 1) ys else places_from test (n + 1) ys) ++ here test (n + length (y ∷ ys)) x) [
      | true ↦ ap (λ ns. n ∷ ns) whole
      | false ↦ whole
    ]

-- ---- one edge after another

-- the numbers of the first edges that enter each statement
abbrev pub AreFirst : Proc → ℕ → List (List ℕ) → Type 0
AreFirst proc count entering = (number : ℕ) → number < length entering → slice_index_or entering number [] ≡ places_from (enters proc number) 0 (take count (edges_of proc))

as_many : (target : Option ℕ) (place : ℕ) (entering : List (List ℕ)) → length (with_number target place entering) ≡ length entering
as_many None place entering = refl
as_many (Some to) place entering = length-set entering to (slice_index_or entering to [] ++ place ∷ [])

module _ (proc : Proc) where
  added : (target : Option ℕ) (place number : ℕ) (entering : List (List ℕ)) → number < length entering
      → slice_index_or (with_number target place entering) number [] ≡ slice_index_or entering number [] ++ (if option_map_or (λ to. to == number) target false then place ∷ [] else [])
  added None place number entering within = sym (append-nil (slice_index_or entering number []))
  added (Some to) place number entering within =
      elim (to == number) as (λ b. to == number ≡ b → slice_index_or (with_number (Some to) place entering) number [] ≡ slice_index_or entering number [] ++ (if b then place ∷ [] else [])) [
        | true ↦ λ is.
            let same : to ≡ number = eqb-true to number is in
            subst (λ n. slice_index_or (with_number (Some to) place entering) n [] ≡ slice_index_or entering n [] ++ place ∷ []) same
            (get_or-set_same entering to (slice_index_or entering to [] ++ place ∷ []) [] (omega (arith, same, within)))
        | false ↦ λ is.
            let other : number ≡ to → ⊥ = (λ same. let clash : false ≡ true = sym is ∙ ap (λ n. to == n) same ∙ eq-eqb to to refl in absurd cc) in
            get_or-set_other entering to number (slice_index_or entering to [] ++ place ∷ []) [] other ∙ sym (append-nil (slice_index_or entering number []))
      ] refl

  pub one_more_edge : (entering : List (List ℕ)) (place : ℕ) (edge : Edge) → slice_get (edges_of proc) place ≡ Some edge → AreFirst proc place entering → AreFirst proc (place + 1) (with_number (edge_target proc edge) place entering)
  one_more_edge entering place edge read first = λ number within.
      let edges = edges_of proc in
      let below = slice_get_within edges place edge read in
      let before : number < length entering = subst (λ n. number < n) (as_many (edge_target proc edge) place entering) within in
      let front = take_more edges place edge below ∙ ap (λ e. take place edges ++ e ∷ []) (get_or_from_slice_get edges place edge edge read) in
      let short = length-take-le place edges (omega (arith, below)) in
      let size : 0 + length (take place edges) ≡ place = omega (arith, short) in
      added (edge_target proc edge) place number entering before
      ∙ ap (λ ns. ns ++ here (enters proc number) place edge) (first number before)
      ∙ ap (λ k. places_from (enters proc number) 0 (take place edges) ++ here (enters proc number) k edge) (sym size)
      ∙ sym (places_more (enters proc number) 0 (take place edges) edge)
      ∙ ap (places_from (enters proc number) 0) (sym front)

  -- what a step of the loop makes
  pub record IsStep (procs : List Proc) (place_of : ℕ) (edges : List Edge) (place : ℕ) (edge : Edge) (target : Option ℕ) : Type 0 where
    pub proc_at : slice_get procs place_of ≡ Some proc
    pub edges_are : edges ≡ edges_of proc
    pub edge_at : slice_get edges place ≡ Some edge
    pub target_is : target ≡ option_and_then (λ p. edge_target p edge) (slice_get procs place_of)

  pub one_more_step : (procs : List Proc) (place_of : ℕ) (edges : List Edge) (place : ℕ) (edge : Edge) (target : Option ℕ) → IsStep procs place_of edges place edge target
      → (entering next : List (List ℕ)) → next ≡ with_number target place entering → length entering ≡ length proc.body → AreFirst proc place entering
      → (length next ≡ length proc.body) × AreFirst proc (place + 1) next
  one_more_step procs place_of edges place edge target step entering next is many first =
      let read = sym (ap (λ es. slice_get es place) step.edges_are) ∙ step.edge_at in
      let to : target ≡ edge_target proc edge = step.target_is ∙ ap (option_and_then (λ p. edge_target p edge)) step.proc_at in
      let same : next ≡ with_number (edge_target proc edge) place entering = is ∙ ap (λ t. with_number t place entering) to in (
        ap length same ∙ as_many (edge_target proc edge) place entering ∙ many,
        subst (AreFirst proc (place + 1)) (sym same) (one_more_edge entering place edge read first),
      )

  -- after the last edge
  pub all_edges : (entering : List (List ℕ)) (count : ℕ) → length (edges_of proc) ≤ count → length entering ≡ length proc.body → AreFirst proc count entering → AreEntering proc entering
  all_edges entering count whole many first = record {
    many = many;
    each = λ number places read.
        sym (get_or_from_slice_get entering number places [] read)
        ∙ first number (slice_get_within entering number places read)
        ∙ ap (places_from (enters proc number) 0) (take_all count (edges_of proc) whole);
  }

-- ---- the edges at these numbers

tested_from : {X : Type 0} (passes test : X → Bool) (whole : List X) (n : ℕ) (xs : List X) → ((k : ℕ) → slice_get whole (n + k) ≡ slice_get xs k)
    → list_all (λ place. option_map_or test (slice_get whole place) false) (places_from passes n xs) ≡ list_all test (filter passes xs)
tested_from passes test whole n [] behind = refl
tested_from passes test whole n (x ∷ xs) behind =
    let at : slice_get whole n ≡ Some x = (let same : n ≡ n + 0 = omega arith in ap (slice_get whole) same ∙ behind 0) in
    let rest = tested_from passes test whole (n + 1) xs (λ k. let same : (n + 1) + k ≡ n + suc k = omega arith in ap (slice_get whole) same ∙ behind (suc k)) in
    let first = ap (λ found. option_map_or test found false) at in
    elim (passes x) as (λ b. list_all (λ place. option_map_or test (slice_get whole place) false) (if b then n ∷ places_from passes (n + 1) xs else places_from passes (n + 1) xs)
    ≡ list_all test (if b then x ∷ filter passes xs else filter passes xs)) [
      | true ↦ ap (λ b. b && list_all (λ place. option_map_or test (slice_get whole place) false) (places_from passes (n + 1) xs)) first ∙ ap (λ b. test x && b) rest
      | false ↦ rest
    ]

-- all edges that enter a statement pass a test where those with these numbers do
pub tested_at : (test : Edge → Bool) (proc : Proc) (number : ℕ) → list_all (λ place. option_map_or test (slice_get (edges_of proc) place) false) (numbers_into proc number) ≡ list_all test (edges_into proc number)
tested_at test proc number = tested_from (enters proc number) test (edges_of proc) 0 (edges_of proc) (λ k. let same : 0 + k ≡ k = omega arith in ap (slice_get (edges_of proc)) same)
