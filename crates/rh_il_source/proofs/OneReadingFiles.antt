-- The words of procedures tell the procedures.
use Rattle.std.proofs.Common.{◌≡◌, ℕ, List, [], ◌∷◌, ◌++◌, append_assoc, refl, sym, ap, ◌∙◌}
use Rattle.std.specs.List.{flat_map}
use Rattle.rh_text.specs.declared.sign.Sign.TheVariants.{OpenParen, OpenBrace, CloseBrace}
use Rattle.rh_il_source.specs.declared.word.Word.{Word}
use Rattle.rh_il_source.specs.declared.word.Word.TheVariants.{Sign as SignWord, Name}
use Rattle.rh_il_source.specs.declared.source.Line.{Line}
use Rattle.rh_il_source.specs.declared.source.Source.{Source}
use Rattle.rh_il_source.specs.Source.{more_words, locals_words, closed_words, source_words, file_words, vars_entries}
use Rattle.rh_il_source.proofs.OneReadingLines.{bodies_unique}

-- ---- the names of variables, up to the brace

-- two lists of names, with the same words after them
record SameNames (a b : List (List ℕ)) (r s : List Word) : Type 0 where
  names : a ≡ b
  rests : r ≡ s

abbrev opening : List Word → List Word
opening rest = SignWord OpenBrace ∷ rest

one_more : (name other : List ℕ) {names others : List (List ℕ)} {r s : List Word} → name ≡ other → SameNames names others r s → SameNames (name ∷ names) (other ∷ others) r s
one_more name other same behind = record { names = let e = behind.names in cc; rests = behind.rests }

more_unique : (a b : List (List ℕ)) (r s : List Word) → more_words a ++ opening r ≡ more_words b ++ opening s → SameNames a b r s
more_unique [] [] r s e = record { names = refl; rests = cc }
more_unique [] (name ∷ names) r s e = absurd cc
more_unique (name ∷ names) [] r s e = absurd cc
more_unique (name ∷ names) (other ∷ others) r s e = one_more name other (cc) (more_unique names others r s (cc))

locals_unique : (a b : List (List ℕ)) (r s : List Word) → locals_words a ++ opening r ≡ locals_words b ++ opening s → SameNames a b r s
locals_unique [] [] r s e = record { names = refl; rests = cc }
locals_unique [] (name ∷ names) r s e = absurd cc
locals_unique (name ∷ names) [] r s e = absurd cc
locals_unique (name ∷ names) (other ∷ others) r s e = one_more name other (cc) (more_unique names others r s (cc))

abbrev vars_words : List (List ℕ) → List Word
vars_words = vars_entries Name Name (λ word. word)

vars_unique : (a b : List (List ℕ)) (r s : List Word) → vars_words a ++ opening r ≡ vars_words b ++ opening s → SameNames a b r s
vars_unique [] [] r s e = record { names = refl; rests = cc }
vars_unique [] (name ∷ names) r s e = absurd cc
vars_unique (name ∷ names) [] r s e = absurd cc
vars_unique (name ∷ names) (other ∷ others) r s e = one_more name other (cc) (locals_unique names others r s (cc))

-- ---- procedures

abbrev body_words : List Line → List Word → List Word
body_words lines rest = flat_map closed_words lines ++ SignWord CloseBrace ∷ rest

-- the words of a procedure, part by part
source_parts : (p : Source) (rest : List Word) → source_words p ++ rest ≡ Name p.name ∷ SignWord OpenParen ∷ (vars_words p.vars ++ opening (body_words p.body rest))
source_parts p rest =
    let vars = vars_words p.vars in
    let block = opening (flat_map closed_words p.body) in
    ap (λ (words : List Word). Name p.name ∷ SignWord OpenParen ∷ words)
    (append_assoc (vars ++ block) (SignWord CloseBrace ∷ []) rest ∙ append_assoc vars block (SignWord CloseBrace ∷ rest))

-- two procedures, with the same words after them
record SameSources (a b : Source) (r s : List Word) : Type 0 where
  source : a ≡ b
  rests : r ≡ s

abbrev source_of : List ℕ → List (List ℕ) → List Line → Source
source_of name vars body = record { name = name; vars = vars; body = body }

same_parts : (p q : Source) → p.name ≡ q.name → p.vars ≡ q.vars → p.body ≡ q.body → p ≡ q
same_parts p q name vars body =
    ap (λ n. source_of n p.vars p.body) name ∙ ap (λ vs. source_of q.name vs p.body) vars ∙ ap (source_of q.name q.vars) body

source_unique : (p q : Source) (r s : List Word) → source_words p ++ r ≡ source_words q ++ s → SameSources p q r s
source_unique p q r s e =
    let parts = sym (source_parts p r) ∙ e ∙ source_parts q s in
    let name : p.name ≡ q.name = cc in
    let vars = vars_unique p.vars q.vars (body_words p.body r) (body_words q.body s) (cc) in
    let body = bodies_unique p.body q.body r s vars.rests in
    record { source = same_parts p q name vars.names body.lines; rests = body.rests }

pub file_words_unique : (a b : List Source) → file_words a ≡ file_words b → a ≡ b
file_words_unique [] [] e = refl
file_words_unique [] (q ∷ qs) e = absurd cc
file_words_unique (p ∷ ps) [] e = absurd cc
file_words_unique (p ∷ ps) (q ∷ qs) e =
    let first = source_unique p q (file_words ps) (file_words qs) e in
    ap (λ (x : Source). x ∷ ps) first.source ∙ ap (λ (xs : List Source). q ∷ xs) (file_words_unique ps qs first.rests)
