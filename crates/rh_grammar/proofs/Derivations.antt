-- Derivations put together and taken apart.
use Rattle.rh_grammar.specs.Tables.{rules_of}
use Rattle.std.proofs.Common.{◌≡◌, ℕ, zero, suc, ◌≤◌, List, [], ◌∷◌, ◌++◌, Some, refl, subst, arith, append_assoc}
use Rattle.rh_grammar.specs.declared.grammar.Symbol.{Symbol}
use Rattle.rh_grammar.specs.declared.grammar.Symbol.TheVariants.{Token, Rule}
use Rattle.rh_grammar.specs.declared.grammar.Grammar.{Grammar}
use Rattle.rh_grammar.specs.Derivation.{Rules, alternative, Derives, done, token, expand}
use Rattle.rh_grammar.specs.Deterministic.{Evidence, AreKnown, AreLower, IsProductive, IsDeterministic}

-- two derivations side by side
pub append_derives : {rules : Rules} {α β : List Symbol} {qs rs v u : List ℕ} → Derives rules α qs v → Derives rules β rs u → Derives rules (α ++ β) (qs ++ rs) (v ++ u)
append_derives done d' = d'
append_derives (token d) d' = token (append_derives d d')
append_derives {rules = rules} {β = β} {rs = rs} {u = u} (expand {symbols = α} {to = to} {ps = ps} {tokens = w} h d) d' =
    expand h (subst (λ s. Derives rules s (ps ++ rs) (w ++ u)) (append_assoc to α β) (append_derives d d'))

-- what derives a token in front
pub record Shifts (rules : Rules) (α : List Symbol) (qs tokens : List ℕ) (class : ℕ) : Type 0 where
  pub rest : List ℕ
  pub tokens_are : tokens ≡ class ∷ rest
  pub derives : Derives rules α qs rest

pub shifts : {rules : Rules} {α : List Symbol} {qs tokens : List ℕ} {class : ℕ} → Derives rules (Token class ∷ α) qs tokens → Shifts rules α qs tokens class
shifts (token {tokens = rest} d) = record { rest = rest; tokens_are = refl; derives = d }

-- how a nonterminal in front is replaced
pub record Expands (rules : Rules) (rule : ℕ) (α : List Symbol) (tokens : List ℕ) : Type 0 where
  pub number : ℕ
  pub to : List Symbol
  pub others : List ℕ
  pub production : alternative rules rule number ≡ Some to
  pub derives : Derives rules (to ++ α) others tokens

pub expands : {rules : Rules} {rule : ℕ} {α : List Symbol} {qs tokens : List ℕ} → Derives rules (Rule rule ∷ α) qs tokens → Expands rules rule α tokens
expands (expand {p = p} {to = to} {ps = ps} h d) = record { number = p; to = to; others = ps; production = h; derives = d }

-- no symbols derive no tokens
pub nothing : {rules : Rules} {qs tokens : List ℕ} → Derives rules [] qs tokens → tokens ≡ []
nothing done = refl

-- symbols derive something
pub record Yields (rules : Rules) (α : List Symbol) : Type 0 where
  pub by : List ℕ
  pub tokens : List ℕ
  pub derives : Derives rules α by tokens

module _ (g : Grammar) (e : Evidence) (d : IsDeterministic g e) where
  lower_than : (h k : ℕ) (α : List Symbol) → h ≤ k → AreLower e h α → AreLower e k α
  lower_than h k [] le low = tt
  lower_than h k (Token c ∷ α) le low = lower_than h k α le low
  lower_than h k (Rule m ∷ α) le low = (low.0, omega (arith, low.1), lower_than h k α le low.2)

  yields_rule : (m : ℕ) (α : List Symbol) (made : IsProductive g e m) → Yields (rules_of g) made.0 → Yields (rules_of g) α → Yields (rules_of g) (Rule m ∷ α)
  yields_rule m α made first rest = record {
    by = e.witness m ∷ (first.by ++ rest.by);
    tokens = first.tokens ++ rest.tokens;
    derives = expand made.1 (append_derives first.derives rest.derives);
  }

  yields_token : (c : ℕ) (α : List Symbol) → Yields (rules_of g) α → Yields (rules_of g) (Token c ∷ α)
  yields_token c α rest = record { by = rest.by; tokens = c ∷ rest.tokens; derives = token rest.derives }

  yields_next : (k : ℕ) → ((α : List Symbol) → AreLower e k α → Yields (rules_of g) α) → (α : List Symbol) → AreLower e (suc k) α → Yields (rules_of g) α
  yields_next k lower [] low = record { by = []; tokens = []; derives = done }
  yields_next k lower (Token c ∷ α) low = yields_token c α (yields_next k lower α low)
  yields_next k lower (Rule m ∷ α) low =
      let made = d.productive m low.0 in
      yields_rule m α made (lower made.0 (lower_than (e.height m) k made.0 (omega (arith, low.1)) made.2)) (yields_next k lower α low.2)

  yields_lowest : (α : List Symbol) → AreLower e 0 α → Yields (rules_of g) α
  yields_lowest [] low = record { by = []; tokens = []; derives = done }
  yields_lowest (Token c ∷ α) low = yields_token c α (yields_lowest α low)
  yields_lowest (Rule m ∷ α) low = absurd (omega (arith, low.1))

  yields_lower : (h : ℕ) (α : List Symbol) → AreLower e h α → Yields (rules_of g) α
  yields_lower zero = yields_lowest
  yields_lower (suc k) = yields_next k (yields_lower k)

  -- symbols with known nonterminals derive something
  pub yields : (α : List Symbol) → AreKnown e α → Yields (rules_of g) α
  yields [] known = record { by = []; tokens = []; derives = done }
  yields (Token c ∷ α) known = yields_token c α (yields α known)
  yields (Rule m ∷ α) known =
      let made = d.productive m known.0 in
      yields_rule m α made (yields_lower (e.height m) made.0 made.2) (yields α known.1)

  pub known_append : (α β : List Symbol) → AreKnown e α → AreKnown e β → AreKnown e (α ++ β)
  known_append [] β a b = b
  known_append (Token c ∷ α) β a b = known_append α β a b
  known_append (Rule m ∷ α) β a b = (a.0, known_append α β a.1 b)
