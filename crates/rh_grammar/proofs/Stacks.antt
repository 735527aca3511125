-- A stack, seen from its top.
use Rattle.std.proofs.Common.{◌≡◌, ℕ, ◌-◌, ◌<◌, List, [], ◌∷◌, ◌++◌, length, take, reverse, Option, Some, None, refl, sym, ap, ◌∙◌, subst, arith, length-append}
use Rattle.std.proofs.lemmas.List.{reverse-append, reverse-reverse, take_at, nil_from_length}
use Rattle.std.specs.Option.{option_to_list}
use Rattle.std.specs.Prelude.{slice_get}
use Rattle.rh_grammar.specs.declared.grammar.Symbol.{Symbol}
use Rattle.rh_grammar.specs.declared.grammar.Symbol.TheVariants.{Token, Rule}
use Rattle.rh_grammar.specs.declared.grammar.Grammar.{Grammar}
use Rattle.rh_grammar.specs.Tables.{production_at, rules_of, chosen, empty}
use Rattle.rh_grammar.specs.Stack.{Pushes}
use Rattle.rh_grammar.specs.Deterministic.{Evidence, IsDeterministic, load}
use Rattle.rh_grammar.specs.Parsing.{IsTop, IsNextRule, IsParsed, IsStuck, Any, Next, End}
use Rattle.rh_grammar.specs.Derivation.{Derives, IsSyntaxFault}
use Rattle.rh_grammar.proofs.Heads.{load_step}
use Rattle.rh_grammar.proofs.Steps.{chosen_production, parsed_step, parsed_token, stuck_rule, stuck_token, stuck_end, fault_end, wanting_token, wanting_rule, parsed_end, derived}

-- a stack with a known top
from_top : (xs : List Symbol) (x : Symbol) (others : List Symbol) → reverse xs ≡ x ∷ others → xs ≡ reverse others ++ x ∷ []
from_top xs x others e = sym (reverse-reverse xs) ∙ ap reverse e ∙ reverse-append (x ∷ []) others

-- what a pop leaves
pub popped : (old new : List Symbol) (n : ℕ) (x : Symbol) (others : List Symbol) → n ≡ length old → new ≡ take (n - 1) old → reverse old ≡ x ∷ others → reverse new ≡ others
popped old new n x others len left top =
    let whole = from_top old x others top in
    let short : length (reverse others) ≡ n - 1 = omega (arith, len, ap length whole, length-append (reverse others) (x ∷ [])) in
    ap reverse (left ∙ ap (take (n - 1)) whole ∙ take_at (reverse others) (x ∷ []) (n - 1) short) ∙ reverse-reverse others

cons_same : (x y : Symbol) (xs ys : List Symbol) → x ∷ xs ≡ y ∷ ys → (x ≡ y) × (xs ≡ ys)
cons_same x y xs ys e = (cc, cc)

some_same : (x y : Symbol) → ◌≡◌ {A = Option Symbol} (Some x) (Some y) → x ≡ y
some_same x y e = cc

slice_get_end : (p : List Symbol) (x : Symbol) → slice_get (p ++ x ∷ []) (length p) ≡ Some x
slice_get_end [] x = refl
slice_get_end (z ∷ p) x = slice_get_end p x

-- the top is the last item
last_of : (xs : List Symbol) (x : Symbol) (others : List Symbol) → reverse xs ≡ x ∷ others → slice_get xs (length xs - 1) ≡ Some x
last_of xs x others e =
    let whole = from_top xs x others e in
    let short : length xs - 1 ≡ length (reverse others) = omega (arith, ap length whole, length-append (reverse others) (x ∷ [])) in
    ap (slice_get xs) short ∙ ap (λ zs. slice_get zs (length (reverse others))) whole ∙ slice_get_end (reverse others) x

slice_get_last : (xs : List Symbol) (ys : List Symbol) (o : Option Symbol) → reverse xs ≡ ys → o ≡ slice_get xs (length xs - 1) → IsTop xs o
slice_get_last xs [] None e last = e
slice_get_last xs (y ∷ ys) None e last = let there = last_of xs y ys e in absurd cc
slice_get_last xs [] (Some x) e last =
    let none : xs ≡ [] = sym (reverse-reverse xs) ∙ ap reverse e in
    let gone : Some x ≡ slice_get {X = Symbol} [] 0 = last ∙ ap (λ l. slice_get l (length l - 1)) none in absurd cc
slice_get_last xs (y ∷ ys) (Some x) e last =
    let there = last_of xs y ys e in
    let same : ◌≡◌ {A = Option Symbol} (Some y) (Some x) = sym there ∙ sym last in
    (ys, e ∙ ap (λ z. z ∷ ys) (some_same y x same))

-- the last item is on top
pub last_is_top : (xs : List Symbol) (o : Option Symbol) → o ≡ slice_get xs (length xs - 1) → IsTop xs o
last_is_top xs o last = slice_get_last xs (reverse xs) o refl last

-- what is known not to be on top doesn't stand there
pub not_on_top : (xs : List Symbol) (o : Option Symbol) (x : Symbol) → IsTop xs o → (o ≡ Some x → ⊥) → (others : List Symbol) → reverse xs ≡ x ∷ others → ⊥
not_on_top xs None x top differs others e = let none : [] ≡ x ∷ others = sym top ∙ e in cc
not_on_top xs (Some y) x top differs others e = differs (ap (λ (s : Symbol). Some s) (cons_same y x top.0 others (sym top.1 ∙ e)).0)

-- the top of a stack is replaced by the symbols of its production
pub record IsReplaced (g : Grammar) (rule class number : ℕ) (old new : List Symbol) : Type 0 where
  pub to : List Symbol
  pub others : List Symbol
  pub production : production_at g rule number ≡ Some to
  pub old_is : reverse old ≡ Rule rule ∷ others
  pub new_is : reverse new ≡ to ++ others

pub replaced_stack : (g : Grammar) (e : Evidence) → IsDeterministic g e → (rule class number : ℕ) (old mid new : List Symbol) (n : ℕ) → IsNextRule old (Some rule) → chosen g rule class ≡ Some number → n ≡ length old → mid ≡ take (n - 1) old → Pushes g rule number mid new → IsReplaced g rule class number old new
replaced_stack g e d rule class number old mid new n next is_chosen len left pushes =
    let made = chosen_production g e d 0 rule class number is_chosen in
    record {
      to = made.0;
      others = next.0;
      production = made.1;
      old_is = next.1;
      new_is = pushes made.0 made.1 ∙ ap (λ l. made.0 ++ l) (popped old mid n (Rule rule) next.0 len left next.1);
    }

module _ (g : Grammar) (e : Evidence) (d : IsDeterministic g e) (rule class number : ℕ) (old new : List Symbol) (r : IsReplaced g rule class number old new) where
  pub lighter_stack : load g (reverse new) < load g (reverse old)
  lighter_stack =
      let step = load_step g e d rule number r.to r.others r.production in
      let light = ap (load g) r.new_is in
      let heavy = ap (load g) r.old_is in
      omega arith

  pub parsed_replaced : (start : ℕ) (tokens ps qs : List ℕ) → chosen g rule class ≡ Some number → qs ≡ ps ++ number ∷ [] → IsParsed g e start (Next class) tokens (reverse old) ps → IsParsed g e start (Next class) tokens (reverse new) qs
  parsed_replaced start tokens ps qs is_chosen taken parsed =
      let before = subst (λ s. IsParsed g e start (Next class) tokens s ps) r.old_is parsed in
      let after = parsed_step g e d start class tokens rule number r.to r.others ps before r.production is_chosen in
      subst (λ s. IsParsed g e start (Next class) tokens s qs) (sym r.new_is)
      (subst (λ l. IsParsed g e start (Next class) tokens (r.to ++ r.others) l) (sym taken) after)

-- the token on top is taken
pub parsed_taken : (g : Grammar) (e : Evidence) → IsDeterministic g e → (start class : ℕ) (tokens : List ℕ) (old new : List Symbol) (n : ℕ) (ps : List ℕ) → IsTop old (Some (Token class)) → n ≡ length old → new ≡ take (n - 1) old → IsParsed g e start (Next class) tokens (reverse old) ps → IsParsed g e start Any (tokens ++ class ∷ []) (reverse new) ps
parsed_taken g e d start class tokens old new n ps top len left parsed =
    let before = subst (λ s. IsParsed g e start (Next class) tokens s ps) top.1 parsed in
    let after = parsed_token g e d start class tokens top.0 ps before in
    subst (λ s. IsParsed g e start Any (tokens ++ class ∷ []) s ps) (sym (popped old new n (Token class) top.0 len left top.1)) after

stuck_at : (g : Grammar) (e : Evidence) → IsDeterministic g e → (start class : ℕ) (tokens : List ℕ) (old symbols : List Symbol) (ps : List ℕ) → reverse old ≡ symbols → ((others : List Symbol) → reverse old ≡ Token class ∷ others → ⊥) → ((rule : ℕ) (others : List Symbol) → reverse old ≡ Rule rule ∷ others → chosen g rule class ≡ None) → IsParsed g e start (Next class) tokens symbols ps → IsStuck g symbols class
stuck_at g e d start class tokens old [] ps same not_top stopped parsed = stuck_end g e d start class
stuck_at g e d start class tokens old (Token other ∷ others) ps same not_top stopped parsed =
    stuck_token g e d start class other others (λ is_class. not_top others (same ∙ ap (λ c. Token c ∷ others) is_class))
stuck_at g e d start class tokens old (Rule rule ∷ others) ps same not_top stopped parsed =
    stuck_rule g e d start class tokens rule others ps parsed (stopped rule others same)

-- where the token isn't on top and no nonterminal there can be replaced, the symbols are stuck
pub stuck_on_top : (g : Grammar) (e : Evidence) → IsDeterministic g e → (start class : ℕ) (tokens : List ℕ) (old : List Symbol) (ps : List ℕ) → ((others : List Symbol) → reverse old ≡ Token class ∷ others → ⊥) → ((rule : ℕ) (others : List Symbol) → reverse old ≡ Rule rule ∷ others → chosen g rule class ≡ None) → IsParsed g e start (Next class) tokens (reverse old) ps → IsStuck g (reverse old) class
stuck_on_top g e d start class tokens old ps not_top stopped parsed =
    stuck_at g e d start class tokens old (reverse old) ps refl not_top stopped parsed

-- at the end of the tokens: the symbol that is popped, and what is left
module _ (g : Grammar) (e : Evidence) (d : IsDeterministic g e) (start : ℕ) (tokens ps : List ℕ) (old new : List Symbol) (n : ℕ) (len : n ≡ length old) (left : new ≡ take (n - 1) old) (parsed : IsParsed g e start End tokens (reverse old) ps) where
  pub end_token : (class : ℕ) → IsTop old (Some (Token class)) → IsSyntaxFault (rules_of g) start tokens (length tokens)
  end_token class top =
      let before = subst (λ s. IsParsed g e start End tokens s ps) top.1 parsed in
      fault_end g e d start tokens (Token class ∷ top.0) ps before (wanting_token g e d start class top.0)

  pub end_rule : (rule : ℕ) → IsTop old (Some (Rule rule)) → empty g rule ≡ None → IsSyntaxFault (rules_of g) start tokens (length tokens)
  end_rule rule top none =
      let before = subst (λ s. IsParsed g e start End tokens s ps) top.1 parsed in
      fault_end g e d start tokens (Rule rule ∷ top.0) ps before (wanting_rule g e d start rule top.0 none)

  pub end_step : (rule number : ℕ) (qs : List ℕ) → IsTop old (Some (Rule rule)) → empty g rule ≡ Some number → qs ≡ ps ++ number ∷ [] → IsParsed g e start End tokens (reverse new) qs
  end_step rule number qs top some taken =
      let before = subst (λ s. IsParsed g e start End tokens s ps) top.1 parsed in
      let after = parsed_end g e d start tokens rule number top.0 ps before some in
      subst (λ s. IsParsed g e start End tokens s qs) (sym (popped old new n (Rule rule) top.0 len left top.1))
      (subst (λ l. IsParsed g e start End tokens top.0 l) (sym taken) after)

  pub end_all : reverse old ≡ [] → Derives (rules_of g) (Rule start ∷ []) ps tokens
  end_all none = derived g e d start tokens ps (subst (λ s. IsParsed g e start End tokens s ps) none parsed)

-- what was popped was on top
pub popped_top : (old new : List Symbol) (o : Option Symbol) (x : Symbol) → old ≡ new ++ option_to_list o → o ≡ Some x → IsTop old (Some x)
popped_top old new o x e some =
    (reverse new, ap reverse (e ∙ ap (λ p. new ++ option_to_list p) some) ∙ reverse-append new (x ∷ []))

-- nothing is popped of no symbols
pub popped_none : (old : List Symbol) (n : ℕ) → n ≡ length old → n ≡ 0 → reverse old ≡ []
popped_none old n len none = ap reverse (nil_from_length old (sym len ∙ none))
