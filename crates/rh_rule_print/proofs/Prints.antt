-- A text that is printed by pieces, and what its tokens say wherever it stands.
use Rattle.std.proofs.Common.{◌≡◌, ℕ, ◌+◌, List, [], ◌++◌, length, refl, sym, ◌∙◌, subst}
use Rattle.std.proofs.lemmas.Grind.{flat_map-append}
use Rattle.std.specs.List.{flat_map}
use Rattle.rh_text.specs.Pieces.{is_word_byte, Piece, spelled, Stops, ArePieces}
use Rattle.rh_text.proofs.Printing.{told, told_append, are_pieces_append}
use Rattle.rh_rule_source.specs.declared.word.Word.{Word}
use Rattle.rh_rule_source.specs.Words.{said}

-- whatever comes next
abbrev pub Always : List ℕ → Type 0
Always rest = Unit {0}

-- no name or number goes on in what comes next
abbrev pub Ends : List ℕ → Type 0
Ends rest = Stops is_word_byte rest

-- The text is made of pieces, wherever what comes next allows it, and the words that they say at any offset are such words.
pub record Prints (allowed : List ℕ → Type 0) (text : List ℕ) (Says : List Word → Type 0) : Type 0 where
  pub pieces : List Piece
  pub spells : flat_map spelled pieces ≡ text
  pub are : (rest : List ℕ) → allowed rest → ArePieces pieces rest
  pub says : (at : ℕ) → Says (told said at pieces)

-- these words and no others
abbrev pub Exactly : List Word → List Word → Type 0
Exactly words said = said ≡ words

-- a text of pieces whose words do not tell where they stand
pub fixed : {allowed : List ℕ → Type 0} (pieces : List Piece) (words : List Word) → ((rest : List ℕ) → allowed rest → ArePieces pieces rest) → ((at : ℕ) → told said at pieces ≡ words) → Prints allowed (flat_map spelled pieces) (Exactly words)
fixed pieces words are says = record { pieces = pieces; spells = refl; are = are; says = says }

-- the same text says something else too
pub tells : {allowed : List ℕ → Type 0} {text : List ℕ} {P Q : List Word → Type 0} → Prints allowed text P → ((words : List Word) → P words → Q words) → Prints allowed text Q
tells part more = record { pieces = part.pieces; spells = part.spells; are = part.are; says = λ at. more _ (part.says at) }

-- the same text in another form
pub as_text : {allowed : List ℕ → Type 0} {a b : List ℕ} {P : List Word → Type 0} → a ≡ b → Prints allowed a P → Prints allowed b P
as_text same part = record { pieces = part.pieces; spells = part.spells ∙ same; are = part.are; says = part.says }

-- it may stand in fewer places
pub in_fewer : {allowed fewer : List ℕ → Type 0} {text : List ℕ} {P : List Word → Type 0} → ((rest : List ℕ) → fewer rest → allowed rest) → Prints allowed text P → Prints fewer text P
in_fewer less part = record { pieces = part.pieces; spells = part.spells; are = λ rest h. part.are rest (less rest h); says = part.says }

-- One text after another. A text of many parts is put together from the last part to the first.
pub behind : {allowed later : List ℕ → Type 0} {a b : List ℕ} {Q G : List Word → Type 0} → Prints later b Q → ((rest : List ℕ) → later rest → allowed (b ++ rest))
    → Prints allowed a (λ v. (w : List Word) → Q w → G (v ++ w)) → Prints later (a ++ b) G
behind {allowed} {later} {a} {b} {Q} {G} second follows first = record {
  pieces = first.pieces ++ second.pieces;
  spells = flat_map-append spelled first.pieces second.pieces ∙ (λ i. first.spells i ++ second.spells i);
  are = λ rest h.
      are_pieces_append first.pieces second.pieces rest
      (first.are (flat_map spelled second.pieces ++ rest) (subst (λ (t : List ℕ). allowed (t ++ rest)) (sym second.spells) (follows rest h)))
      (second.are rest h);
  says = λ at.
      let next = at + length (flat_map spelled first.pieces) in
      subst G (sym (told_append said at first.pieces second.pieces)) (first.says at (told said next second.pieces) (second.says next));
}

-- fixed words after a text
pub fixed_behind : {allowed later : List ℕ → Type 0} {a b : List ℕ} {words : List Word} {G : List Word → Type 0} → Prints later b (Exactly words) → ((rest : List ℕ) → later rest → allowed (b ++ rest))
    → Prints allowed a (λ v. G (v ++ words)) → Prints later (a ++ b) G
fixed_behind {allowed} {later} {a} {b} {words} {G} second follows first =
    behind second follows (tells first (λ v g w same. subst (λ w. G (v ++ w)) (sym same) g))

-- fixed words before a text
pub fixed_before : {later : List ℕ → Type 0} {a b : List ℕ} {words : List Word} {G : List Word → Type 0} → Prints Always a (Exactly words) → Prints later b (λ w. G (words ++ w)) → Prints later (a ++ b) G
fixed_before {later} {a} {b} {words} {G} first second =
    behind second (λ rest h. tt) (tells first (λ v same w g. subst (λ v. G (v ++ w)) (sym same) g))

-- nothing is printed
pub nothing : {G : List Word → Type 0} → G [] → Prints Always [] G
nothing g = record { pieces = []; spells = refl; are = λ rest h. tt; says = λ at. g }

-- what may stand anywhere may stand before the end of a name
pub anywhere : {text : List ℕ} {P : List Word → Type 0} → Prints Always text P → Prints Ends text P
anywhere part = in_fewer (λ rest h. tt) part
