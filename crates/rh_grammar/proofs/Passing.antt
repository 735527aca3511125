-- A grammar that passes the test is decided by one token, and each nonterminal derives something.
use Rattle.std.proofs.Common.{◌≡◌, ℕ, zero, suc, ◌+◌, ◌<◌, Bool, true, false, cond, ◌&&◌, eqb, List, [], ◌∷◌, length, Option, Some, None, is_some, refl, sym, ap, ◌∙◌, subst, arith, ⊎_elim}
use Rattle.std.proofs.lemmas.Option.{same_Some, slice_get-map, slice_get_within, get_or_from_slice_get}
use Rattle.std.proofs.lemmas.Bool.{and_parts, or_cases, false≢true, ltb-true, eqb-true, cases_lt}
use Rattle.std.proofs.lemmas.List.Quantifiers.{position-Some}
use Rattle.std.specs.Prelude.{slice_get, slice_index, is_none, nat_lt, unwrap_or}
use Rattle.std.specs.Option.{option_and_then, option_map}
use Rattle.std.specs.List.{list_all, list_any, position}
use Rattle.rh_list.proofs.AtPlace.{passes_at, read_at}
use Rattle.rh_grammar.specs.declared.grammar.Symbol.{Symbol}
use Rattle.rh_grammar.specs.declared.grammar.Symbol.TheVariants.{Token, Rule}
use Rattle.rh_grammar.specs.declared.grammar.Alternative.{Alternative}
use Rattle.rh_grammar.specs.declared.grammar.Nonterminal.{Nonterminal}
use Rattle.rh_grammar.specs.declared.grammar.Grammar.{Grammar}
use Rattle.rh_grammar.specs.Derivation.{alternatives}
use Rattle.rh_grammar.specs.Tables.{is_taken_at, is_empty, byte, choice, empty, weight, sides_of, rules_of, production_at}
use Rattle.rh_grammar.specs.Deterministic.{vanishes, begins, load, AreKnown, AreLower, AreFollowed, IsDecided, IsProductionOf, IsProductive, IsDeterministic}
use Rattle.rh_grammar.specs.Parsing.{IsParsable}
use Rattle.rh_grammar.specs.Test.{Tables, follows_in, evidence_of, all_below, implies, is_number, symbols_known, symbols_lower, symbols_followed, production_passes, productions_pass, empty_passes, lower_passes, classes_known, nonterminal_known, is_deterministic}

below : (n : ℕ) (test : ℕ → Bool) (k : ℕ) → all_below n test ≡ true → k < n → test k ≡ true
below zero test k h lt = absurd (omega arith)
below (suc n) test k h lt =
    let parts = and_parts (test n) (all_below n test) h in
    ⊎_elim (λ less. below n test k parts.1 less)
    (λ no_less. let same : k ≡ n = omega arith in ap test same ∙ parts.0)
    (cases_lt k n)

implied : (a b : Bool) → implies a b ≡ true → a ≡ true → b ≡ true
implied true b h e = h
implied false b h e = absurd (false≢true e)

number_is : (o : Option ℕ) (n : ℕ) → is_number o n ≡ true → o ≡ Some n
number_is None n h = absurd (false≢true h)
number_is (Some m) n h = ap (λ (k : ℕ). Some k) (eqb-true m n h)

none_is : (o : Option ℕ) → is_none o ≡ true → o ≡ None
none_is None h = refl
none_is (Some n) h = absurd (false≢true h)

is_some_of : (o : Option ℕ) → is_some o ≡ true → (p : ℕ) × (o ≡ Some p)
is_some_of None h = absurd (false≢true h)
is_some_of (Some p) h = (p, refl)

-- the first item that passes a test
pub record Found {X : Type 0} (test : X → Bool) (xs : List X) (p : ℕ) : Type 0 where
  pub item : X
  pub there : slice_get xs p ≡ Some item
  pub passes : test item ≡ true

found : {X : Type 0} (test : X → Bool) (xs : List X) (p : ℕ) → position test xs ≡ Some p → Found test xs p
found test [] p at = let gone : None ≡ Some p = at in absurd cc
found test (x ∷ xs) p at =
    let first = position-Some test (x ∷ xs) p x at in
    let read = read_at (x ∷ xs) p first.0 in
    record { item = read.0; there = read.1; passes = ap test (sym (get_or_from_slice_get (x ∷ xs) p read.0 x read.1)) ∙ first.1 }

none_some : (p : ℕ) → ◌≡◌ {A = Option ℕ} None (Some p) → ⊥
none_some p e = cc

byte_is : (o : Option ℕ) (p : ℕ) → byte o ≡ Some p → o ≡ Some p
byte_is None p h = let gone : None ≡ Some p = h in absurd cc
byte_is (Some n) p h = elim (nat_lt n 256) as (λ b. cond b (Some n) None ≡ Some p → Some n ≡ Some p) [ true ↦ λ e. e | false ↦ λ e. absurd (none_some p e) ] h

-- the first alternative that passes a test, of a nonterminal
pub record Taken (g : Grammar) (test : Alternative → Bool) (rule p : ℕ) : Type 0 where
  pub nonterminal : Nonterminal
  pub stands : slice_get g.nonterminals.now rule ≡ Some nonterminal
  pub alternative : Found test nonterminal.alternatives.now p

taken_of : (g : Grammar) (test : Alternative → Bool) (rule p : ℕ) (o : Option Nonterminal) → slice_get g.nonterminals.now rule ≡ o → option_and_then (λ (n : Nonterminal). byte (position test n.alternatives.now)) o ≡ Some p → Taken g test rule p
taken_of g test rule p None stands h = let gone : None ≡ Some p = h in absurd cc
taken_of g test rule p (Some n) stands h =
    record { nonterminal = n; stands = stands; alternative = found test n.alternatives.now p (byte_is (position test n.alternatives.now) p h) }

chosen_taken : (g : Grammar) (rule class p : ℕ) → choice g rule class ≡ Some p → Taken g (is_taken_at class) rule p
unfolding choice
chosen_taken g rule class p h = taken_of g (is_taken_at class) rule p (slice_get g.nonterminals.now rule) refl h

empty_taken : (g : Grammar) (rule p : ℕ) → empty g rule ≡ Some p → Taken g is_empty rule p
unfolding empty
empty_taken g rule p h = taken_of g is_empty rule p (slice_get g.nonterminals.now rule) refl h

-- the alternatives of a nonterminal that stands there
sides_are : (g : Grammar) (rule : ℕ) (n : Nonterminal) → slice_get g.nonterminals.now rule ≡ Some n → alternatives (rules_of g) rule ≡ sides_of n
sides_are g rule n stands =
    ap (λ (o : Option (List (List Symbol))). unwrap_or o []) (slice_get-map sides_of g.nonterminals.now rule ∙ ap (option_map sides_of) stands)

taken_production : (g : Grammar) (test : Alternative → Bool) (rule p : ℕ) → (t : Taken g test rule p) → production_at g rule p ≡ Some t.alternative.item.to.now
taken_production g test rule p t =
    let to = λ (a : Alternative). a.to.now in
    ap (λ (sides : List (List Symbol)). slice_get sides p) (sides_are g rule t.nonterminal t.stands)
    ∙ slice_get-map to t.nonterminal.alternatives.now p ∙ ap (option_map to) t.alternative.there

-- a class in a list whose classes are all below the bound
class_below : (class bound : ℕ) (at : List ℕ) → list_any (λ (c : ℕ). eqb c class) at ≡ true → list_all (λ (c : ℕ). nat_lt c bound) at ≡ true → class < bound
class_below class bound [] is all = absurd (false≢true is)
class_below class bound (c ∷ cs) is all =
    let both = and_parts (nat_lt c bound) (list_all (λ (d : ℕ). nat_lt d bound) cs) all in
    ⊎_elim (λ here. let same = eqb-true c class here in let low = ltb-true c bound both.0 in omega arith)
    (λ later. class_below class bound cs later both.1)
    (or_cases (eqb c class) (list_any (λ (d : ℕ). eqb d class) cs) is)

no_symbols : (xs : List Symbol) → eqb (length xs) 0 ≡ true → xs ≡ []
no_symbols [] h = refl
no_symbols (x ∷ xs) h = let none : length (x ∷ xs) ≡ 0 = eqb-true (length (x ∷ xs)) 0 h in absurd (omega arith)

-- a nonterminal with an alternative stands in the grammar
has_alternatives : (g : Grammar) (rule p : ℕ) (to : List Symbol) (o : Option Nonterminal) → slice_get g.nonterminals.now rule ≡ o → production_at g rule p ≡ Some to → rule < length g.nonterminals.now
has_alternatives g rule p to (Some n) stands h = slice_get_within g.nonterminals.now rule n stands
has_alternatives g rule p to None stands h =
    let none : alternatives (rules_of g) rule ≡ [] = ap (λ (o : Option (List (List Symbol))). unwrap_or o []) (slice_get-map sides_of g.nonterminals.now rule ∙ ap (option_map sides_of) stands) in
    let gone : None ≡ Some to = ap (λ (sides : List (List Symbol)). slice_get sides p) (sym none) ∙ h in absurd cc

-- the parts of the test
pub record Parts (g : Grammar) (t : Tables) : Type 0 where
  pub productions : all_below (length g.nonterminals.now) (λ rule. productions_pass g t rule 0 (alternatives (rules_of g) rule)) ≡ true
  pub known : list_all (nonterminal_known t) g.nonterminals.now ≡ true
  pub empties : all_below (length g.nonterminals.now) (λ rule. empty_passes g t rule (empty g rule)) ≡ true
  pub lower : all_below (length t.witnesses) (λ rule. lower_passes t rule (production_at g rule (slice_index t.witnesses rule))) ≡ true

parts_of : (g : Grammar) (t : Tables) → is_deterministic g t ≡ true → Parts g t
parts_of g t pass =
    let a = and_parts _ _ pass in
    let b = and_parts _ _ a.1 in
    let c = and_parts _ _ b.1 in
    record { productions = a.0; known = b.0; empties = c.0; lower = c.1 }

module _ (g : Grammar) (t : Tables) (parts : Parts g t) where
  choice_within : (rule class p : ℕ) → choice g rule class ≡ Some p → class < t.classes
  choice_within rule class p h =
      let taken = chosen_taken g rule class p h in
      let known = passes_at (nonterminal_known t) g.nonterminals.now rule taken.nonterminal parts.known taken.stands in
      let one = passes_at (classes_known t) taken.nonterminal.alternatives.now p taken.alternative.item known taken.alternative.there in
      class_below class t.classes taken.alternative.item.at.now taken.alternative.passes one

  follows_within : (rule class : ℕ) → follows_in t rule class ≡ true → class < t.classes
  follows_within rule class h = ltb-true class t.classes (and_parts (nat_lt class t.classes) _ h).0

  begins_within : (α : List Symbol) (class : ℕ) → symbols_known t α ≡ true → begins g α class ≡ true → class < t.classes
  begins_within [] class known h = absurd (false≢true h)
  begins_within (Token other ∷ α) class known h =
      let same = eqb-true other class h in
      let low = ltb-true other t.classes (and_parts (nat_lt other t.classes) (symbols_known t α) known).0 in omega arith
  begins_within (Rule rule ∷ α) class known h =
      ⊎_elim (λ here. let some = is_some_of (choice g rule class) here in choice_within rule class some.0 some.1)
      (λ later. begins_within α class (and_parts (nat_lt rule (length t.witnesses)) (symbols_known t α) known).1 (and_parts (is_some (empty g rule)) (begins g α class) later).1)
      (or_cases (is_some (choice g rule class)) (is_some (empty g rule) && begins g α class) h)

  known_from : (α : List Symbol) → symbols_known t α ≡ true → AreKnown (evidence_of t) α
  known_from [] known = tt
  known_from (Token class ∷ α) known = known_from α (and_parts (nat_lt class t.classes) (symbols_known t α) known).1
  known_from (Rule rule ∷ α) known =
      let both = and_parts (nat_lt rule (length t.witnesses)) (symbols_known t α) known in
      (ltb-true rule (length t.witnesses) both.0, known_from α both.1)

  lower_from : (height : ℕ) (α : List Symbol) → symbols_lower t height α ≡ true → AreLower (evidence_of t) height α
  lower_from height [] low = tt
  lower_from height (Token class ∷ α) low = lower_from height α low
  lower_from height (Rule rule ∷ α) low =
      let a = and_parts (nat_lt rule (length t.witnesses)) (nat_lt (slice_index t.heights rule) height && symbols_lower t height α) low in
      let b = and_parts (nat_lt (slice_index t.heights rule) height) (symbols_lower t height α) a.1 in
      (ltb-true _ _ a.0, ltb-true _ _ b.0, lower_from height α b.1)

  followed_from : (of : ℕ) (α : List Symbol) → symbols_known t α ≡ true → symbols_followed g t of α ≡ true → AreFollowed g (evidence_of t) of α
  followed_from of [] known h = tt
  followed_from of (Token class ∷ α) known h = followed_from of α (and_parts (nat_lt class t.classes) (symbols_known t α) known).1 h
  followed_from of (Rule rule ∷ α) known h =
      let rest_known = (and_parts (nat_lt rule (length t.witnesses)) (symbols_known t α) known).1 in
      let behind = λ (class : ℕ). implies (begins g α class) (follows_in t rule class) in
      let through = λ (class : ℕ). implies (follows_in t of class) (follows_in t rule class) in
      let a = and_parts (all_below t.classes behind) (implies (vanishes g α) (all_below t.classes through) && symbols_followed g t of α) h in
      let b = and_parts (implies (vanishes g α) (all_below t.classes through)) (symbols_followed g t of α) a.1 in (
        λ class begin. implied _ _ (below t.classes behind class a.0 (begins_within α class rest_known begin)) begin,
        λ gone class follow. implied _ _ (below t.classes through class (implied _ _ b.0 gone) (follows_within of class follow)) follow,
        followed_from of α rest_known b.1,
      )

  decided_from : (rule p : ℕ) (to : List Symbol) → production_passes g t rule p to ≡ true → IsDecided g (evidence_of t) rule p to
  decided_from rule p to h =
      let chooses = λ (class : ℕ). implies (begins g to class) (is_number (choice g rule class) p) in
      let a = and_parts (all_below t.classes chooses) (implies (vanishes g to) (is_number (empty g rule) p) && (symbols_followed g t rule to && (nat_lt (load g to) (weight g rule) && symbols_known t to))) h in
      let b = and_parts (implies (vanishes g to) (is_number (empty g rule) p)) (symbols_followed g t rule to && (nat_lt (load g to) (weight g rule) && symbols_known t to)) a.1 in
      let c = and_parts (symbols_followed g t rule to) (nat_lt (load g to) (weight g rule) && symbols_known t to) b.1 in
      let d = and_parts (nat_lt (load g to) (weight g rule)) (symbols_known t to) c.1 in
      record {
        chosen = λ class begin. number_is _ _ (implied _ _ (below t.classes chooses class a.0 (begins_within to class d.1 begin)) begin);
        vanishing = λ gone. number_is _ _ (implied _ _ b.0 gone);
        followed = followed_from rule to d.1 c.0;
        lighter = ltb-true _ _ d.0;
        known = known_from to d.1;
      }

  production_read : (rule p : ℕ) (sides : List (List Symbol)) (i : ℕ) (to : List Symbol) → productions_pass g t rule p sides ≡ true → slice_get sides i ≡ Some to → production_passes g t rule (p + i) to ≡ true
  production_read rule p [] i to h read = let gone : None ≡ Some to = read in absurd cc
  production_read rule p (side ∷ sides) zero to h read =
      let first = (and_parts (production_passes g t rule p side) (productions_pass g t rule (suc p) sides) h).0 in
      let here : p ≡ p + 0 = omega arith in
      subst (λ n. production_passes g t rule n to ≡ true) here (subst (λ r. production_passes g t rule p r ≡ true) (same_Some side to read) first)
  production_read rule p (side ∷ sides) (suc i) to h read =
      let rest = (and_parts (production_passes g t rule p side) (productions_pass g t rule (suc p) sides) h).1 in
      let here : suc p + i ≡ p + suc i = omega arith in
      subst (λ n. production_passes g t rule n to ≡ true) here (production_read rule (suc p) sides i to rest read)

  decided : (rule p : ℕ) (to : List Symbol) → production_at g rule p ≡ Some to → IsDecided g (evidence_of t) rule p to
  decided rule p to h =
      let within = has_alternatives g rule p to (slice_get g.nonterminals.now rule) refl h in
      let row = below _ _ rule parts.productions within in
      let here : 0 + p ≡ p = omega arith in
      decided_from rule p to (subst (λ n. production_passes g t rule n to ≡ true) here (production_read rule 0 (alternatives (rules_of g) rule) p to row h))

  choices_from : (rule class p : ℕ) → choice g rule class ≡ Some p → IsProductionOf g rule p
  choices_from rule class p h =
      let taken = chosen_taken g rule class p h in (taken.alternative.item.to.now, taken_production g (is_taken_at class) rule p taken)

  empties_from : (rule p : ℕ) → empty g rule ≡ Some p → production_at g rule p ≡ Some []
  empties_from rule p h =
      let taken = empty_taken g rule p h in
      taken_production g is_empty rule p taken ∙ ap (λ (l : List Symbol). Some l) (no_symbols taken.alternative.item.to.now taken.alternative.passes)

  apart_from : (rule class p : ℕ) → empty g rule ≡ Some p → follows_in t rule class ≡ true → choice g rule class ≡ None
  apart_from rule class p h follow =
      let taken = empty_taken g rule p h in
      let within = slice_get_within g.nonterminals.now rule taken.nonterminal taken.stands in
      let tells = λ (c : ℕ). implies (follows_in t rule c) (is_none (choice g rule c)) in
      let all = subst (λ o. empty_passes g t rule o ≡ true) h (below _ _ rule parts.empties within) in
      none_is _ (implied _ _ (below t.classes tells class all (follows_within rule class follow)) follow)

  productive_of : (rule : ℕ) (o : Option (List Symbol)) → production_at g rule (slice_index t.witnesses rule) ≡ o → lower_passes t rule o ≡ true → IsProductive g (evidence_of t) rule
  productive_of rule None h passes = absurd (false≢true passes)
  productive_of rule (Some to) h passes = (to, h, lower_from (slice_index t.heights rule) to passes)

  pub deterministic_from : IsDeterministic g (evidence_of t)
  deterministic_from = record {
    decided = decided;
    choices = choices_from;
    empties = empties_from;
    apart = apart_from;
    productive = λ rule known. productive_of rule (production_at g rule (slice_index t.witnesses rule)) refl (below _ _ rule parts.lower known);
  }

-- a grammar that passes the test can be parsed from each nonterminal that has a witness
pub parsable : (g : Grammar) (t : Tables) (rule : ℕ) → is_deterministic g t ≡ true → rule < length t.witnesses → IsParsable g rule
parsable g t rule pass known = (evidence_of t, deterministic_from g t (parts_of g t pass), known)
