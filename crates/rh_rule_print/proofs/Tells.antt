-- Words that are those of a part of a source, and what the part says.
use Rattle.std.proofs.Common.{◌≡◌, ℕ, codes, List, [], ◌∷◌, ◌++◌, map, Option, None, ap, refl, sym, subst, append_assoc, ◌∙◌}
use Rattle.std.specs.Option.{option_or}
use Rattle.std.specs.List.{flat_map, AllByRecursion}
use Rattle.rh_rule_source.specs.declared.word.Word.{Word}
use Rattle.rh_rule_source.specs.declared.word.Word.TheVariants.{Fixed}
use Rattle.rh_rule_source.specs.Grammar.{CLOSE_PAREN}
use Rattle.rh_rule_source.specs.Source.{separated}
use Rattle.rh_rule_print.specs.Text.{joined}
use Rattle.rh_rule_text.specs.Unknown.{first_of}
use Rattle.rh_rule_print.proofs.Prints.{Prints, Exactly, Always, Ends, tells, behind, fixed_before, fixed_behind, nothing, anywhere}
use Rattle.rh_rule_print.proofs.FixedTexts.{close_text}

-- The words are those of a part of a source that means x, in which no name is unknown and each number is in range.
pub record Tells {S X : Type 0} (words : S → List Word) (meaning : S → X) (unknown : S → Option ℕ) (InRange : S → Type 0) (x : X) (said : List Word) : Type 0 where
  pub source : S
  pub same : said ≡ words source
  pub means : meaning source ≡ x
  pub known : unknown source ≡ None
  pub in_range : InRange source

-- no name is unknown in either part
pub both_known : {T : Type 0} (a b : Option T) → a ≡ None → b ≡ None → option_or a b ≡ None
both_known a b first second = ap (λ (o : Option _). option_or o b) first ∙ second

module _ {S X : Type 0} (words : S → List Word) (meaning : S → X) (unknown : S → Option ℕ) (InRange : S → Type 0) where
  abbrev Item : X → List Word → Type 0
  Item = Tells words meaning unknown InRange

  -- ---- a part with fixed words

  abbrev pub Led : List Word → X → List Word → Type 0
  Led before = Tells (λ s. before ++ words s) meaning unknown InRange

  -- fixed words before a part
  pub led_printed : {allowed : List ℕ → Type 0} {lead text : List ℕ} {before : List Word} {x : X} → Prints Always lead (Exactly before) → Prints allowed text (Item x) → Prints allowed (lead ++ text) (Led before x)
  led_printed {before = before} lead part =
      fixed_before lead
      (tells part
      (λ w told. record {
        source = told.source;
        same = ap (λ (w : List Word). before ++ w) told.same;
        means = told.means;
        known = told.known;
        in_range = told.in_range;
      }))

  abbrev pub Bracketed : List Word → X → List Word → Type 0
  Bracketed before = Tells (λ s. before ++ words s ++ (Fixed CLOSE_PAREN ∷ [])) meaning unknown InRange

  -- fixed words before a part, and a bracket after it
  pub bracketed_printed : {lead text : List ℕ} {before : List Word} {x : X} → Prints Always lead (Exactly before) → Prints Ends text (Item x) → Prints Always (lead ++ text ++ codes ")") (Bracketed before x)
  bracketed_printed {before = before} lead part =
      fixed_behind close_text (λ rest h. refl)
      (fixed_before lead
      (tells part
      (λ w told. record {
        source = told.source;
        same = ap (λ (w : List Word). before ++ w ++ (Fixed CLOSE_PAREN ∷ [])) told.same;
        means = told.means;
        known = told.known;
        in_range = told.in_range;
      })))

  abbrev pub Related : Word → X × X → List Word → Type 0
  Related between =
      Tells (λ (both : S × S). words both.0 ++ between ∷ words both.1) (λ both. (meaning both.0, meaning both.1)) (λ both. option_or (unknown both.0) (unknown both.1)) (λ both. InRange both.0 × InRange both.1)

  -- two parts with a word between them
  pub related_printed : {a text b : List ℕ} {between : Word} {x y : X} → Prints Ends a (Item x) → Prints Always text (Exactly (between ∷ [])) → ((rest : List ℕ) → Ends (text ++ rest)) → Prints Ends b (Item y) → Prints Ends (a ++ text ++ b) (Related between (x, y))
  related_printed {between = between} first middle ends second =
      behind second (λ rest h. tt)
      (fixed_behind middle (λ rest h. ends rest)
      (tells first
      (λ v first w second. record {
        source = (first.source, second.source);
        same = append_assoc v (between ∷ []) w ∙ (λ i. first.same i ++ (between ∷ second.same i));
        means = λ i. (first.means i, second.means i);
        known = both_known _ _ first.known second.known;
        in_range = (first.in_range, second.in_range);
      })))

  -- ---- lists

  -- items after the first one, each after a word
  abbrev pub Others : Word → List X → List Word → Type 0
  Others between = Tells (λ sources. flat_map (λ s. between ∷ words s) sources) (map meaning) (first_of unknown) (AllByRecursion InRange)

  -- items with a word between each two
  abbrev pub Separated : Word → List X → List Word → Type 0
  Separated between = Tells (separated words between) (map meaning) (first_of unknown) (AllByRecursion InRange)

  one_more : (between : Word) (x : X) (xs : List X) (v w : List Word) → Item x v → Others between xs w → Others between (x ∷ xs) (between ∷ (v ++ w))
  one_more between x xs v w first others = record {
    source = first.source ∷ others.source;
    same = λ i. between ∷ (first.same i ++ others.same i);
    means = λ i. first.means i ∷ others.means i;
    known = both_known _ _ first.known others.known;
    in_range = (first.in_range, others.in_range);
  }

  first_one : (between : Word) (x : X) (xs : List X) (v w : List Word) → Item x v → Others between xs w → Separated between (x ∷ xs) (v ++ w)
  first_one between x xs v w first others = record {
    source = first.source ∷ others.source;
    same = λ i. first.same i ++ others.same i;
    means = λ i. first.means i ∷ others.means i;
    known = both_known _ _ first.known others.known;
    in_range = (first.in_range, others.in_range);
  }

  module _ (text : X → List ℕ) (separator : List ℕ) (between : Word) (between_text : Prints Always separator (Exactly (between ∷ [])))
      (ends : (rest : List ℕ) → Ends (separator ++ rest)) (Fits : X → Type 0) (item : (x : X) → Fits x → Prints Ends (text x) (Item x)) where
    -- what follows an item may stand there
    others_end : (xs : List X) (rest : List ℕ) → Ends rest → Ends (flat_map (λ x. separator ++ text x) xs ++ rest)
    others_end [] rest h = h
    others_end (x ∷ xs) rest h =
        let others = flat_map (λ x. separator ++ text x) xs in
        subst Ends (sym (append_assoc (separator ++ text x) others rest ∙ append_assoc separator (text x) (others ++ rest))) (ends (text x ++ (others ++ rest)))

    pub others_printed : (xs : List X) → AllByRecursion Fits xs → Prints Ends (flat_map (λ x. separator ++ text x) xs) (Others between xs)
    others_printed [] fit = anywhere (nothing (record { source = []; same = refl; means = refl; known = refl; in_range = tt }))
    others_printed (x ∷ xs) fit =
        behind (others_printed xs fit.1) (others_end xs)
        (fixed_before between_text (tells (item x fit.0) (λ v first w others. one_more between x xs v w first others)))

    pub joined_printed : (xs : List X) → AllByRecursion Fits xs → Prints Ends (joined separator text xs) (Separated between xs)
    joined_printed [] fit = anywhere (nothing (record { source = []; same = refl; means = refl; known = refl; in_range = tt }))
    joined_printed (x ∷ xs) fit =
        behind (others_printed xs fit.1) (others_end xs) (tells (item x fit.0) (λ v first w others. first_one between x xs v w first others))

  -- items one after another
  abbrev pub Repeated : List X → List Word → Type 0
  Repeated = Tells (flat_map words) (map meaning) (first_of unknown) (AllByRecursion InRange)

  pub repeated_printed : (text : X → List ℕ) (Fits : X → Type 0) → ((x : X) → Fits x → Prints Always (text x) (Item x)) → (xs : List X) → AllByRecursion Fits xs → Prints Always (flat_map text xs) (Repeated xs)
  repeated_printed text Fits item [] fit = nothing (record { source = []; same = refl; means = refl; known = refl; in_range = tt })
  repeated_printed text Fits item (x ∷ xs) fit =
      behind (repeated_printed text Fits item xs fit.1) (λ rest h. tt)
      (tells (item x fit.0)
      (λ v first w others. record {
        source = first.source ∷ others.source;
        same = λ i. first.same i ++ others.same i;
        means = λ i. first.means i ∷ others.means i;
        known = both_known _ _ first.known others.known;
        in_range = (first.in_range, others.in_range);
      }))
