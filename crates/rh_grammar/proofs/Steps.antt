-- What a parser keeps true, and what each of its steps does.
use Rattle.std.proofs.Common.{◌≡◌, ℕ, ◌+◌, ◌<◌, List, [], ◌∷◌, ◌++◌, length, take, get_or, Option, Some, None, refl, sym, ap, ◌∙◌, subst, arith, append_assoc}
use Rattle.std.proofs.lemmas.Bool.{false≢true}
use Rattle.std.proofs.lemmas.List.{append-nil, take_more, take_all}
use Rattle.std.specs.Option.{option_or}
use Rattle.rh_grammar.specs.declared.grammar.Symbol.{Symbol}
use Rattle.rh_grammar.specs.declared.grammar.Symbol.TheVariants.{Token, Rule}
use Rattle.rh_grammar.specs.declared.grammar.Grammar.{Grammar}
use Rattle.rh_grammar.specs.Tables.{choice, empty, chosen, production_at, rules_of}
use Rattle.rh_grammar.specs.Derivation.{Derives, done, token, expand, BeginsDerivable, IsSyntaxFault}
use Rattle.rh_grammar.specs.Deterministic.{Evidence, IsProductionOf, IsDeterministic}
use Rattle.rh_grammar.specs.Parsing.{Ahead, Any, Next, End, Come, IsParsed, IsStuck}
use Rattle.rh_grammar.proofs.Derivations.{shifts, Expands, expands, nothing, yields, known_append}
use Rattle.rh_grammar.proofs.Heads.{context_step, predicted, predicted_end}

head_same : (a b : ℕ) (xs ys : List ℕ) → a ∷ xs ≡ b ∷ ys → a ≡ b
head_same a b xs ys h = cc

tail_of : (a b : ℕ) (xs ys : List ℕ) → a ∷ xs ≡ b ∷ ys → xs ≡ ys
tail_of a b xs ys h = cc

module _ (g : Grammar) (e : Evidence) (d : IsDeterministic g e) (start : ℕ) where
  -- before the first token
  pub parsed_none : start < e.count → IsParsed g e start Any [] (Rule start ∷ []) []
  parsed_none known = record {
    sound = λ qs more derives. derives;
    complete = λ qs more _ derives. (qs, derives);
    context = (λ class h. absurd (false≢true h), tt);
    known = (known, tt);
  }

  pub look : (ahead : Ahead) (tokens : List ℕ) (symbols : List Symbol) (ps : List ℕ) → IsParsed g e start Any tokens symbols ps → IsParsed g e start ahead tokens symbols ps
  look ahead tokens symbols ps parsed = record {
    sound = parsed.sound;
    complete = λ qs more _ derives. parsed.complete qs more tt derives;
    context = parsed.context;
    known = parsed.known;
  }

  same_production : (rule p q : ℕ) (to to' : List Symbol) → production_at g rule p ≡ Some to → production_at g rule q ≡ Some to' → p ≡ q → to' ≡ to
  same_production rule p q to to' h h' same =
      let both : ◌≡◌ {A = Option (List Symbol)} (Some to') (Some to) = sym h' ∙ ap (production_at g rule) (sym same) ∙ h in cc

  replaced : (rule p : ℕ) (to α : List Symbol) (more : List ℕ) → production_at g rule p ≡ Some to → (x : Expands (rules_of g) rule α more) → x.number ≡ p → (rs : List ℕ) × Derives (rules_of g) (to ++ α) rs more
  replaced rule p to α more h x same =
      (x.others, subst (λ t. Derives (rules_of g) (t ++ α) x.others more) (same_production rule p x.number to x.to h x.production (sym same)) x.derives)

  sound_step : (ahead : Ahead) (tokens : List ℕ) (rule p : ℕ) (to α : List Symbol) (ps : List ℕ) → IsParsed g e start ahead tokens (Rule rule ∷ α) ps → production_at g rule p ≡ Some to → (qs more : List ℕ) → Derives (rules_of g) (to ++ α) qs more → Derives (rules_of g) (Rule start ∷ []) ((ps ++ p ∷ []) ++ qs) (tokens ++ more)
  sound_step ahead tokens rule p to α ps parsed h qs more derives =
      subst (λ l. Derives (rules_of g) (Rule start ∷ []) l (tokens ++ more)) (sym (append_assoc ps (p ∷ []) qs)) (parsed.sound (p ∷ qs) more (expand h derives))

  some_same : (a b : ℕ) → ◌≡◌ {A = Option ℕ} (Some a) (Some b) → a ≡ b
  some_same a b h = cc

  complete_step : (class : ℕ) (tokens : List ℕ) (rule p : ℕ) (to α : List Symbol) (ps : List ℕ) → IsParsed g e start (Next class) tokens (Rule rule ∷ α) ps → production_at g rule p ≡ Some to → chosen g rule class ≡ Some p → (qs more : List ℕ) → Come (Next class) more → Derives (rules_of g) (Rule start ∷ []) qs (tokens ++ more) → (rs : List ℕ) × Derives (rules_of g) (to ++ α) rs more
  complete_step class tokens rule p to α ps parsed h is_chosen qs [] come derives = absurd come
  complete_step class tokens rule p to α ps parsed h is_chosen qs (other ∷ more) come derives =
      let before = parsed.complete qs (other ∷ more) come derives in
      let x = expands before.1 in
      let by_table = predicted g e d rule other α more parsed.context x in
      replaced rule p to α (other ∷ more) h x (some_same _ _ (sym by_table ∙ ap (chosen g rule) come ∙ is_chosen))

  chosen_cases : (rule class p : ℕ) (o : Option ℕ) → choice g rule class ≡ o → option_or o (empty g rule) ≡ Some p → IsProductionOf g rule p
  chosen_cases rule class p None e h = ([], d.empties rule p h)
  chosen_cases rule class p (Some q) e h = d.choices rule class p (e ∙ h)

  -- the nonterminal in front is replaced
  pub parsed_step : (class : ℕ) (tokens : List ℕ) (rule p : ℕ) (to α : List Symbol) (ps : List ℕ) → IsParsed g e start (Next class) tokens (Rule rule ∷ α) ps → production_at g rule p ≡ Some to → chosen g rule class ≡ Some p → IsParsed g e start (Next class) tokens (to ++ α) (ps ++ p ∷ [])
  parsed_step class tokens rule p to α ps parsed h is_chosen = record {
    sound = sound_step (Next class) tokens rule p to α ps parsed h;
    complete = complete_step class tokens rule p to α ps parsed h is_chosen;
    context = context_step g e d rule p to α h parsed.context;
    known = known_append g e d to α (d.decided rule p to h).known parsed.known.1;
  }

  -- the token in front is taken
  pub parsed_token : (class : ℕ) (tokens : List ℕ) (α : List Symbol) (ps : List ℕ) → IsParsed g e start (Next class) tokens (Token class ∷ α) ps → IsParsed g e start Any (tokens ++ class ∷ []) α ps
  parsed_token class tokens α ps parsed = record {
    sound = λ qs more derives. subst (Derives (rules_of g) (Rule start ∷ []) (ps ++ qs)) (sym (append_assoc tokens (class ∷ []) more)) (parsed.sound qs (class ∷ more) (token derives));
    complete = λ qs more _ derives.
        let before = parsed.complete qs (class ∷ more) refl (subst (Derives (rules_of g) (Rule start ∷ []) qs) (append_assoc tokens (class ∷ []) more) derives) in
        let x = shifts before.1 in
        let same : x.rest ≡ more = tail_of _ _ _ _ (sym x.tokens_are) in
        (before.0, subst (Derives (rules_of g) α before.0) same x.derives);
    context = parsed.context;
    known = parsed.known;
  }

  -- the tokens so far begin a list that is derived
  pub begins_so_far : (ahead : Ahead) (tokens : List ℕ) (symbols : List Symbol) (ps : List ℕ) → IsParsed g e start ahead tokens symbols ps → BeginsDerivable (rules_of g) start tokens
  begins_so_far ahead tokens symbols ps parsed =
      let y = yields g e d symbols parsed.known in
      (y.tokens, (ps ++ y.by, parsed.sound y.by y.tokens y.derives))

  pub stuck_rule : (class : ℕ) (tokens : List ℕ) (rule : ℕ) (α : List Symbol) (ps : List ℕ) → IsParsed g e start (Next class) tokens (Rule rule ∷ α) ps → chosen g rule class ≡ None → IsStuck g (Rule rule ∷ α) class
  stuck_rule class tokens rule α ps parsed none rs more derives =
      let by_table = predicted g e d rule class α more parsed.context (expands derives) in cc

  pub stuck_token : (class other : ℕ) (α : List Symbol) → (other ≡ class → ⊥) → IsStuck g (Token other ∷ α) class
  stuck_token class other α differs rs more derives =
      let x = shifts derives in differs (head_same _ _ _ _ (sym x.tokens_are))

  pub stuck_end : (class : ℕ) → IsStuck g [] class
  stuck_end class rs more derives = let none = nothing derives in cc

  -- where the symbols are stuck at the token, the fault is there
  pub fault_here : (all : List ℕ) (place class : ℕ) (symbols : List Symbol) (ps : List ℕ) → place < length all → class ≡ get_or all place 0 → IsParsed g e start (Next class) (take place all) symbols ps → IsStuck g symbols class → IsSyntaxFault (rules_of g) start all place
  fault_here all place class symbols ps below class_is parsed stuck = record {
    within = omega arith;
    before = begins_so_far (Next class) (take place all) symbols ps parsed;
    here = λ _ begins.
        let more = begins.0 in
        let derivable = begins.1 in
        let split : take (place + 1) all ++ more ≡ take place all ++ (class ∷ more) =
        ap (λ l. l ++ more) (take_more all place 0 below) ∙ append_assoc (take place all) (get_or all place 0 ∷ []) more ∙ ap (λ c. take place all ++ (c ∷ more)) (sym class_is) in
        let derives = subst (Derives (rules_of g) (Rule start ∷ []) derivable.0) split derivable.1 in
        let rest = parsed.complete derivable.0 (class ∷ more) refl derives in
        stuck rest.0 more rest.1;
    at_end = λ is_end _. absurd (omega arith);
  }

  complete_end : (tokens : List ℕ) (rule p : ℕ) (α : List Symbol) (ps : List ℕ) → IsParsed g e start End tokens (Rule rule ∷ α) ps → empty g rule ≡ Some p → (qs more : List ℕ) → Come End more → Derives (rules_of g) (Rule start ∷ []) qs (tokens ++ more) → (rs : List ℕ) × Derives (rules_of g) α rs more
  complete_end tokens rule p α ps parsed none qs [] come derives =
      let before = parsed.complete qs [] come derives in
      let x = expands before.1 in
      replaced rule p [] α [] (d.empties rule p none) x (some_same _ _ (sym (predicted_end g e d rule α x) ∙ none))
  complete_end tokens rule p α ps parsed none qs (other ∷ more) come derives = absurd come

  -- at the end the nonterminal in front is dropped
  pub parsed_end : (tokens : List ℕ) (rule p : ℕ) (α : List Symbol) (ps : List ℕ) → IsParsed g e start End tokens (Rule rule ∷ α) ps → empty g rule ≡ Some p → IsParsed g e start End tokens α (ps ++ p ∷ [])
  parsed_end tokens rule p α ps parsed none = record {
    sound = sound_step End tokens rule p [] α ps parsed (d.empties rule p none);
    complete = complete_end tokens rule p α ps parsed none;
    context = parsed.context.1;
    known = parsed.known.1;
  }

  -- where the symbols derive something in any case, the fault is at the end
  pub fault_end : (all : List ℕ) (symbols : List Symbol) (ps : List ℕ) → IsParsed g e start End all symbols ps → ((rs : List ℕ) → Derives (rules_of g) symbols rs [] → ⊥) → IsSyntaxFault (rules_of g) start all (length all)
  fault_end all symbols ps parsed wanting = record {
    within = omega arith;
    before = subst (BeginsDerivable (rules_of g) start) (sym (take_all (length all) all (omega arith))) (begins_so_far End all symbols ps parsed);
    here = λ below _. absurd (omega arith);
    at_end = λ _ derivable.
        let rest = parsed.complete derivable.0 [] tt (subst (Derives (rules_of g) (Rule start ∷ []) derivable.0) (sym (append-nil all)) derivable.1) in
        wanting rest.0 rest.1;
  }

  pub wanting_token : (class : ℕ) (α : List Symbol) (rs : List ℕ) → Derives (rules_of g) (Token class ∷ α) rs [] → ⊥
  wanting_token class α rs derives = let x = shifts derives in let none = x.tokens_are in cc

  pub wanting_rule : (rule : ℕ) (α : List Symbol) → empty g rule ≡ None → (rs : List ℕ) → Derives (rules_of g) (Rule rule ∷ α) rs [] → ⊥
  wanting_rule rule α none rs derives = let some = predicted_end g e d rule α (expands derives) in cc

  -- with nothing left to derive the tokens are derived
  pub derived : (all ps : List ℕ) → IsParsed g e start End all [] ps → Derives (rules_of g) (Rule start ∷ []) ps all
  derived all ps parsed =
      subst (λ l. Derives (rules_of g) (Rule start ∷ []) l all) (append-nil ps) (subst (Derives (rules_of g) (Rule start ∷ []) (ps ++ [])) (append-nil all) (parsed.sound [] [] done))

  -- the table's productions are the nonterminal's
  pub chosen_production : (rule class p : ℕ) → chosen g rule class ≡ Some p → IsProductionOf g rule p
  unfolding chosen
  chosen_production rule class p h = chosen_cases rule class p (choice g rule class) refl h
