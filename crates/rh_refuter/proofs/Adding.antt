-- Clauses that are seen after others.
use Rattle.std.proofs.Common.{◌≡◌, ℕ, ◌<◌, ◌≤◌, ◌+◌, ◌^◌, List, [], ◌∷◌, ◌++◌, Some, true, false, length, take, get_or, map, arith, refl, ap, sym, subst, ◌∙◌, inl, inr, append_assoc}
use Rattle.std.specs.Prelude.{not}
use Rattle.std.specs.List.{flat_map}
use Rattle.std.specs.Option.{option_map, option_map_or}
use Rattle.std.proofs.lemmas.Bool.{both_ways, cases_lt, not-true}
use Rattle.std.proofs.lemmas.List.Folds.{length-flat_map-take}
use Rattle.std.proofs.lemmas.List.{append-nil, length-append, take_more}
use Rattle.std.proofs.lemmas.Option.{slice_get-get_or, slice_get-map}
use Rattle.rh_term.specs.declared.clause.Clause.{Clause}
use Rattle.rh_term.specs.Clause.{is_true_clause}
use Rattle.rh_term.specs.Partition.{joined}
use Rattle.rh_term.proofs.InParts.{one_more}
use Rattle.rh_log.specs.Tree.{IsFalseAt, is_false_at}
use Rattle.rh_refuter.specs.declared.choice.Seen.{Seen}
use Rattle.rh_refuter.specs.Choice.{Adds, IsBest}

pub adds_none : (labels : List ℕ) (seen : Seen) → Adds labels seen [] seen
adds_none labels seen = record {
  counted = let e : seen.count ≡ seen.count + 0 = omega arith in e;
  best = λ clauses e h. subst (λ all. IsBest all labels seen.best) (sym (append-nil clauses)) h;
}

pub adds_both : (labels : List ℕ) (old now new : Seen) (part more : List Clause) → Adds labels old part now → Adds labels now more new → Adds labels old (part ++ more) new
adds_both labels old now new part more first second = record {
  counted = omega (arith, first.counted, second.counted, length-append part more);
  best = λ clauses e h.
      subst (λ all. IsBest all labels new.best) (append_assoc clauses part more)
      (second.best (clauses ++ part) (omega (arith, length-append clauses part, e, first.counted)) (first.best clauses e h));
}

pub adds_one : (labels : List ℕ) (clauses : List Clause) (i : ℕ) (d : Clause) → i < length clauses → (old now new : Seen)
    → Adds labels old (take i clauses) now → Adds labels now (get_or clauses i d ∷ []) new → Adds labels old (take (i + 1) clauses) new
adds_one labels clauses i d within old now new first second =
    subst (λ part. Adds labels old part new) (sym (take_more clauses i d within)) (adds_both labels old now new (take i clauses) (get_or clauses i d ∷ []) first second)

pub adds_next : {X : Type 0} (labels : List ℕ) (f : X → List Clause) (xs : List X) (i : ℕ) (d : X) → i < length xs → (old now new : Seen)
    → Adds labels old (flat_map f (take i xs)) now → Adds labels now (f (get_or xs i d)) new → Adds labels old (flat_map f (take (i + 1) xs)) new
adds_next labels f xs i d within old now new first second =
    subst (λ part. Adds labels old part new) (sym (one_more f xs i d within)) (adds_both labels old now new (flat_map f (take i xs)) (f (get_or xs i d)) first second)

-- whether the clause at a place is false
pub false_here : {X : Type 0} (labels : List ℕ) (f : X → Clause) (xs : List X) (i : ℕ) (d : X) → i < length xs
    → is_false_at (map f xs) labels i ≡ not (is_true_clause (joined labels) (f (get_or xs i d)))
false_here labels f xs i d within =
    ap (λ found. option_map_or (λ clause. not (is_true_clause (joined labels) clause)) found false)
    (slice_get-map f xs i ∙ ap (option_map f) (slice_get-get_or xs i d within))

pub still_true : {X : Type 0} (labels : List ℕ) (f : X → Clause) (xs : List X) (i : ℕ) (d : X) → i < length xs
    → is_true_clause (joined labels) (f (get_or xs i d)) ≡ true → ((other : ℕ) → other < i → ¬ (IsFalseAt (map f xs) labels other))
    → (other : ℕ) → other < i + 1 → ¬ (IsFalseAt (map f xs) labels other)
still_true labels f xs i d within e before other less h = elim (cases_lt other i) [
  | inl earlier ↦ before other earlier h
  | inr past ↦
      let here : other ≡ i = omega (arith, past, less) in
      let test = is_true_clause (joined labels) (f (get_or xs i d)) in
      both_ways test (not-true test (sym (false_here labels f xs i d within) ∙ subst (IsFalseAt (map f xs) labels) here h)) e
]

-- there is room for what is made of one more
pub has_room : {X : Type 0} (f : X → List Clause) (xs : List X) (i : ℕ) (d : X) → i < length xs → (old now : ℕ)
    → now ≡ old + length (flat_map f (take i xs)) → old + length (flat_map f xs) < 2 ^ 32 → now + length (f (get_or xs i d)) < 2 ^ 32
has_room f xs i d within old now e room = omega (arith, e, room, length-flat_map-take f xs i d within)
