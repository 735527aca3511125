-- The names of a text are names that programs may have.
use Rattle.std.proofs.Common.{◌≡◌, ℕ, Bool, true, false, cond, ◌&&◌, List, [], ◌∷◌, ◌++◌, map, Option, Some, None, refl, sym, ap, ◌∙◌}
use Rattle.std.proofs.lemmas.Bool.{and_parts}
use Rattle.std.proofs.lemmas.List.Folds.{list_all-append}
use Rattle.std.specs.List.{flat_map, list_all}
use Rattle.rh_text.specs.declared.token.Token.{Token}
use Rattle.rh_text.specs.declared.token.TokenKind.{TokenKind}
use Rattle.rh_text.specs.declared.token.TokenKind.TheVariants.{Lower, Upper, Number as NumberKind, Sign as SignKind}
use Rattle.rh_text.specs.declared.sign.Sign.TheVariants.{OpenParen, OpenBrace, CloseBrace}
use Rattle.rh_text.specs.Words.{spelling}
use Rattle.rh_il.specs.Checks.{is_proper, has_proper_names}
use Rattle.rh_il.specs.declared.keyword.Keyword.{Keyword}
use Rattle.rh_il_source.specs.declared.word.Word.{Word}
use Rattle.rh_il_source.specs.declared.word.Word.TheVariants.{Sign as SignWord, Name, Other}
use Rattle.rh_il_source.specs.declared.source.Source.{Source}
use Rattle.rh_il.specs.Keywords.{keyword_of}
use Rattle.rh_il_source.specs.Words.{lower_word, word_as, words_of}
use Rattle.rh_il_source.specs.Source.{more_words, locals_words, closed_words, source_words, file_words, vars_entries}
use Rattle.rh_il_text.specs.Known.{proc_of}

-- a name that programs may have, or no name
abbrev proper : Word → Bool
proper (Name bytes) = is_proper bytes
proper word = true

named : (test : Bool) (bytes : List ℕ) → is_proper bytes ≡ test → proper (cond test (Name bytes) Other) ≡ true
named true bytes e = e
named false bytes e = refl

lowered : (found : Option Keyword) (bytes : List ℕ) → proper (lower_word found bytes) ≡ true
lowered None bytes = named (is_proper bytes) bytes refl
lowered (Some keyword) bytes = refl

word_proper : (kind : TokenKind) (text : List ℕ) (token : Token) → proper (word_as kind text token) ≡ true
word_proper Lower text token = lowered (keyword_of (spelling text token)) (spelling text token)
word_proper Upper text token = refl
word_proper NumberKind text token = refl
word_proper (SignKind sign) text token = refl

pub words_proper : (text : List ℕ) (tokens : List Token) → list_all proper (words_of text tokens) ≡ true
words_proper text [] = refl
words_proper text (t ∷ ts) = rw (word_proper t.kind text t, words_proper text ts) refl

-- the two parts of a list
parts : (xs ys : List Word) → list_all proper (xs ++ ys) ≡ true → (list_all proper xs ≡ true) × (list_all proper ys ≡ true)
parts xs ys all = and_parts (list_all proper xs) (list_all proper ys) (sym (list_all-append proper xs ys) ∙ all)

both : (a b : Bool) → a ≡ true → b ≡ true → (a && b) ≡ true
both a b p q = rw (p, q) refl

more_proper : (names : List (List ℕ)) → list_all proper (more_words names) ≡ true → list_all is_proper names ≡ true
more_proper [] all = refl
more_proper (n ∷ ns) all =
    let split = and_parts (is_proper n) (list_all proper (more_words ns)) all in both (is_proper n) (list_all is_proper ns) split.0 (more_proper ns split.1)

locals_proper : (names : List (List ℕ)) → list_all proper (locals_words names) ≡ true → list_all is_proper names ≡ true
locals_proper [] all = refl
locals_proper (n ∷ ns) all =
    let split = and_parts (is_proper n) (list_all proper (more_words ns)) all in both (is_proper n) (list_all is_proper ns) split.0 (more_proper ns split.1)

abbrev pub vars_words : List (List ℕ) → List Word
vars_words = vars_entries Name Name (λ word. word)

vars_proper : (names : List (List ℕ)) → list_all proper (vars_words names) ≡ true → list_all is_proper names ≡ true
vars_proper [] all = refl
vars_proper (n ∷ ns) all =
    let split = and_parts (is_proper n) (list_all proper (locals_words ns)) all in both (is_proper n) (list_all is_proper ns) split.0 (locals_proper ns split.1)

source_proper : (p : Source) → list_all proper (source_words p) ≡ true → (is_proper p.name && list_all is_proper p.vars) ≡ true
source_proper p all =
    let head = Name p.name ∷ SignWord OpenParen ∷ vars_words p.vars in
    let block = SignWord OpenBrace ∷ flat_map closed_words p.body in
    let front = (parts head block (parts (head ++ block) (SignWord CloseBrace ∷ []) all).0).0 in
    let split = and_parts (is_proper p.name) (list_all proper (vars_words p.vars)) front in
    both (is_proper p.name) (list_all is_proper p.vars) split.0 (vars_proper p.vars split.1)

pub sources_proper : (procs : List (List ℕ)) (sources : List Source) → list_all proper (file_words sources) ≡ true → list_all has_proper_names (map (proc_of procs) sources) ≡ true
sources_proper procs [] all = refl
sources_proper procs (p ∷ ps) all =
    let split = parts (source_words p) (file_words ps) all in
    both (is_proper p.name && list_all is_proper p.vars) (list_all has_proper_names (map (proc_of procs) ps)) (source_proper p split.0) (sources_proper procs ps split.1)

-- procedures that a text spells
pub spelled_proper : (procs : List (List ℕ)) (text : List ℕ) (tokens : List Token) (sources : List Source) → words_of text tokens ≡ file_words sources → list_all has_proper_names (map (proc_of procs) sources) ≡ true
spelled_proper procs text tokens sources spelled = sources_proper procs sources (ap (list_all proper) (sym spelled) ∙ words_proper text tokens)
