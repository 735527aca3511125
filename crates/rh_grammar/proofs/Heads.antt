-- The first token of what symbols derive decides how they are derived.
use Rattle.std.proofs.Common.{◌≡◌, ℕ, ◌+◌, ◌<◌, true, false, cond, ◌&&◌, List, [], ◌∷◌, ◌++◌, Some, None, is_some, refl, sym, ap, ◌∙◌, arith, inl, inr, ◌⊎◌, ⊎_elim}
use Rattle.std.proofs.lemmas.Bool.{and_parts, and_from, or_cases, or_left, or_right, eq-eqb, false≢true, cases_Bool}
use Rattle.rh_grammar.specs.declared.grammar.Symbol.{Symbol}
use Rattle.rh_grammar.specs.declared.grammar.Symbol.TheVariants.{Token, Rule}
use Rattle.rh_grammar.specs.declared.grammar.Grammar.{Grammar}
use Rattle.rh_grammar.specs.Tables.{choice, empty, production_at, rules_of, chosen, weight}
use Rattle.rh_grammar.specs.Derivation.{Derives, done, token, expand}
use Rattle.rh_grammar.specs.Deterministic.{Evidence, vanishes, begins, load, AreFollowed, IsDeterministic}
use Rattle.rh_grammar.specs.Parsing.{IsContext}
use Rattle.rh_grammar.proofs.Derivations.{Expands}

-- the symbols may derive tokens with this front
abbrev HasHead : Grammar → List Symbol → List ℕ → Type 0
HasHead g α [] = vanishes g α ≡ true
HasHead g α (class ∷ tokens) = begins g α class ≡ true

vanishes_append : (g : Grammar) (α β : List Symbol) → vanishes g (α ++ β) ≡ true → (vanishes g α ≡ true) × (vanishes g β ≡ true)
vanishes_append g [] β h = (refl, h)
vanishes_append g (Token c ∷ α) β h = absurd (false≢true h)
vanishes_append g (Rule r ∷ α) β h =
    let parts = and_parts (is_some (empty g r)) (vanishes g (α ++ β)) h in
    let rest = vanishes_append g α β parts.1 in
    (and_from _ _ parts.0 rest.0, rest.1)

begins_append : (g : Grammar) (α β : List Symbol) (class : ℕ) → begins g (α ++ β) class ≡ true → (begins g α class ≡ true) ⊎ ((vanishes g α ≡ true) × (begins g β class ≡ true))
begins_append g [] β class h = inr (refl, h)
begins_append g (Token c ∷ α) β class h = inl h
begins_append g (Rule r ∷ α) β class h =
    ⊎_elim (λ here. inl (or_left _ _ here))
    (λ later.
    let parts = and_parts (is_some (empty g r)) (begins g (α ++ β) class) later in
    ⊎_elim (λ in_front. inl (or_right _ _ (and_from _ _ parts.0 in_front)))
    (λ behind. inr (and_from _ _ parts.0 behind.0, behind.1))
    (begins_append g α β class parts.1))
    (or_cases (is_some (choice g r class)) (is_some (empty g r) && begins g (α ++ β) class) h)

some_same : (x y : List Symbol) → Some x ≡ Some y → x ≡ y
some_same x y h = cc

module _ (g : Grammar) (e : Evidence) (d : IsDeterministic g e) where
  head_expand : (rule p : ℕ) (to α : List Symbol) (tokens : List ℕ) → production_at g rule p ≡ Some to → HasHead g (to ++ α) tokens → HasHead g (Rule rule ∷ α) tokens
  head_expand rule p to α [] h head =
      let parts = vanishes_append g to α head in
      and_from _ _ (ap is_some ((d.decided rule p to h).vanishing parts.0)) parts.1
  head_expand rule p to α (class ∷ tokens) h head =
      ⊎_elim (λ here. or_left _ _ (ap is_some ((d.decided rule p to h).chosen class here)))
      (λ later. or_right _ _ (and_from _ _ (ap is_some ((d.decided rule p to h).vanishing later.0)) later.1))
      (begins_append g to α class head)

  -- derived tokens have a front that the symbols may derive
  pub head_of : {α : List Symbol} {qs tokens : List ℕ} → Derives (rules_of g) α qs tokens → HasHead g α tokens
  head_of done = refl
  head_of (token {class = class} rest) = eq-eqb class class refl
  head_of (expand {rule = rule} {p = p} {symbols = α} {to = to} {tokens = tokens} h rest) =
      head_expand rule p to α tokens h (head_of rest)

  context_expand : (rule : ℕ) (to α : List Symbol) → AreFollowed g e rule to → ((class : ℕ) → begins g α class ≡ true → e.follows rule class ≡ true) → IsContext g e α → IsContext g e (to ++ α)
  context_expand rule [] α followed after context = context
  context_expand rule (Token c ∷ to) α followed after context = context_expand rule to α followed after context
  context_expand rule (Rule m ∷ to) α followed after context = (
    λ class h.
        ⊎_elim (λ here. followed.0 class here) (λ later. followed.1 later.0 class (after class later.1))
        (begins_append g to α class h),
    context_expand rule to α followed.2 after context,
  )

  -- the context stays one when a nonterminal is replaced
  pub context_step : (rule p : ℕ) (to α : List Symbol) → production_at g rule p ≡ Some to → IsContext g e (Rule rule ∷ α) → IsContext g e (to ++ α)
  context_step rule p to α h context = context_expand rule to α (d.decided rule p to h).followed context.0 context.1

  chosen_first : (rule class p : ℕ) → choice g rule class ≡ Some p → chosen g rule class ≡ Some p
  unfolding chosen
  chosen_first rule class p e = rw e refl

  chosen_empty : (rule class p : ℕ) → choice g rule class ≡ None → empty g rule ≡ Some p → chosen g rule class ≡ Some p
  unfolding chosen
  chosen_empty rule class p none e = rw (none, e) refl

  -- at a token the replacement is the one of the table
  pub predicted : (rule class : ℕ) (α : List Symbol) (tokens : List ℕ) → IsContext g e (Rule rule ∷ α) → (x : Expands (rules_of g) rule α (class ∷ tokens)) → chosen g rule class ≡ Some x.number
  predicted rule class α tokens context x =
      let one = d.decided rule x.number x.to x.production in
      ⊎_elim (λ here. chosen_first rule class x.number (one.chosen class here))
      (λ later.
      let none = one.vanishing later.0 in
      chosen_empty rule class x.number (d.apart rule class x.number none (context.0 class later.1)) none)
      (begins_append g x.to α class (head_of x.derives))

  -- at the end it is the one of no symbols
  pub predicted_end : (rule : ℕ) (α : List Symbol) → (x : Expands (rules_of g) rule α []) → empty g rule ≡ Some x.number
  predicted_end rule α x =
      (d.decided rule x.number x.to x.production).vanishing (vanishes_append g x.to α (head_of x.derives)).0

  load_append : (to α : List Symbol) → vanishes g to ≡ false → load g (to ++ α) ≡ load g to
  load_append [] α h = absurd (false≢true (sym h))
  load_append (Token c ∷ to) α h = refl
  load_append (Rule m ∷ to) α h =
      elim (is_some (empty g m)) as (λ b. (b && vanishes g to) ≡ false → weight g m + cond b (load g (to ++ α)) 0 ≡ weight g m + cond b (load g to) 0)
      [ true ↦ λ rest. ap (λ n. weight g m + n) (load_append to α rest) | false ↦ λ _. refl ] h

  -- a replacement makes the load lighter
  pub load_step : (rule p : ℕ) (to α : List Symbol) → production_at g rule p ≡ Some to → load g (to ++ α) < load g (Rule rule ∷ α)
  load_step rule p to α h =
      let one = d.decided rule p to h in
      ⊎_elim
      (λ gone.
      let none = one.vanishing gone in
      let is_empty : to ≡ [] = some_same to [] (sym h ∙ d.empties rule p none) in
      let same = ap (λ t. load g (t ++ α)) is_empty in
      let positive = one.lighter in
      let whole : load g (Rule rule ∷ α) ≡ weight g rule + load g α = rw none refl in
      omega arith)
      (λ stays.
      let lighter = one.lighter in
      let same = load_append to α stays in
      omega arith)
      (cases_Bool (vanishes g to))
