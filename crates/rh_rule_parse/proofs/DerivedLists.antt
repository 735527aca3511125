-- The words of lists are derived, where those of each item are.
use Rattle.std.proofs.Common.{◌≡◌, ℕ, ◌+◌, List, [], ◌∷◌, ◌++◌, true, cond, ap, subst}
use Rattle.std.specs.List.{AllByRecursion, flat_map}
use Rattle.std.specs.Prelude.{nat_lt}
use Rattle.std.proofs.lemmas.Bool.{lt-ltb}
use Rattle.rh_grammar.specs.declared.grammar.Symbol.{Symbol}
use Rattle.rh_grammar.specs.declared.grammar.Symbol.TheVariants.{Token, Rule}
use Rattle.rh_rule_source.specs.declared.word.Word.{Word}
use Rattle.rh_rule_source.specs.declared.word.Word.TheVariants.{Fixed}
use Rattle.rh_rule_source.specs.Grammar.{LOWER}
use Rattle.rh_rule_source.specs.Words.{class_of}
use Rattle.rh_rule_parse.specs.Lists.{IsSeparated, IsRepeated}
use Rattle.rh_rule_source.specs.Source.{separated}
use Rattle.rh_rule_source.proofs.SourceInRange.{IsFilled}
use Rattle.rh_rule_parse.proofs.DerivedParts.{Derived, next, by, regrouped}

-- wherever the nonterminal comes next, it derives the words of an item that is in range
abbrev pub DerivesEach : {T : Type 0} → ℕ → (T → Type 0) → (T → List Word) → Type 0
DerivesEach {T} part InRange words =
    (x : T) (symbols : List Symbol) (rest : List Word) → InRange x → Derived symbols rest → Derived (Rule part ∷ symbols) (words x ++ rest)

-- a word between two items is of its class
between_class : (between : ℕ) → nat_lt between LOWER ≡ true → class_of (Fixed between) ≡ between
between_class between is = ap (λ b. cond b between 255) is

module _ {T : Type 0} (InRange : T → Type 0) (words : T → List Word) where
  -- the items after the first one
  others_derived : (part others between more : ℕ) → IsSeparated part others between more → DerivesEach part InRange words → (xs : List T) (symbols : List Symbol) (rest : List Word) → AllByRecursion InRange xs → Derived symbols rest → Derived (Rule others ∷ symbols) (flat_map (λ y. Fixed between ∷ words y) xs ++ rest)
  others_derived part others between more is each [] symbols rest all d = by (more + 1) is.none_more d
  others_derived part others between more is each (x ∷ xs) symbols rest all d =
      let later = others_derived part others between more is each xs symbols rest all.1 d in
      let tail = flat_map (λ y. Fixed between ∷ words y) xs in
      let one = each x (Rule others ∷ symbols) (tail ++ rest) all.0 later in
      let both = regrouped (words x) tail rest one in
      by more is.one_more
      (subst (λ class. Derived (Token class ∷ Rule part ∷ Rule others ∷ symbols) (Fixed between ∷ ((words x ++ tail) ++ rest))) (between_class between (lt-ltb between LOWER is.fixed)) (next (Fixed between) both))

  -- a list with a first item
  pub separated_derived : (part others between more : ℕ) → IsSeparated part others between more → DerivesEach part InRange words → (xs : List T) (symbols : List Symbol) (rest : List Word) → IsFilled xs → AllByRecursion InRange xs → Derived symbols rest → Derived (Rule part ∷ Rule others ∷ symbols) (separated words (Fixed between) xs ++ rest)
  separated_derived part others between more is each [] symbols rest filled all d = absurd filled
  separated_derived part others between more is each (x ∷ xs) symbols rest filled all d =
      let tail = flat_map (λ y. Fixed between ∷ words y) xs in
      regrouped (words x) tail rest (each x (Rule others ∷ symbols) (tail ++ rest) all.0 (others_derived part others between more is each xs symbols rest all.1 d))

  -- items one after another
  pub repeated_derived : (part others more : ℕ) → IsRepeated part others more → DerivesEach part InRange words → (xs : List T) (symbols : List Symbol) (rest : List Word) → AllByRecursion InRange xs → Derived symbols rest → Derived (Rule others ∷ symbols) (flat_map words xs ++ rest)
  repeated_derived part others more is each [] symbols rest all d = by (more + 1) is.none_more d
  repeated_derived part others more is each (x ∷ xs) symbols rest all d =
      by more is.one_more
      (regrouped (words x) (flat_map words xs) rest (each x (Rule others ∷ symbols) (flat_map words xs ++ rest) all.0 (repeated_derived part others more is each xs symbols rest all.1 d)))

-- what holds of everything holds of each item
pub all_hold : {T : Type 0} (xs : List T) → AllByRecursion (λ (x : T). Unit {0}) xs
all_hold [] = tt
all_hold (x ∷ xs) = (tt, all_hold xs)
