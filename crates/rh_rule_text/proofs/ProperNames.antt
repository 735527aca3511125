-- The names of a rule file are proper, since the words of its text are.
use Rattle.std.proofs.Common.{◌≡◌, ℕ, List, [], ◌∷◌, ◌++◌, Bool, true, false, ◌&&◌, cond, map, refl, sym, ◌∙◌}
use Rattle.std.proofs.lemmas.Bool.{and_parts, and_from}
use Rattle.std.proofs.lemmas.List.Folds.{list_all-append}
use Rattle.std.specs.List.{flat_map, list_all}
use Rattle.std.specs.Prelude.{unwrap_or}
use Rattle.rh_text.specs.declared.token.Token.{Token}
use Rattle.rh_text.specs.declared.token.TokenKind.{TokenKind}
use Rattle.rh_text.specs.declared.token.TokenKind.TheVariants.{Lower as LowerKind, Upper as UpperKind, Number as NumberKind, Sign as SignKind}
use Rattle.rh_text.specs.Words.{spelling}
use Rattle.rh_il.specs.Name.{is_upper_name}
use Rattle.rh_rule.specs.Words.{is_proper, are_proper_params, schema_is_proper, rule_is_proper, are_proper}
use Rattle.rh_rule_source.specs.declared.word.Word.{Word}
use Rattle.rh_rule_source.specs.declared.word.Word.TheVariants.{Fixed, Lower, Upper}
use Rattle.rh_rule_source.specs.declared.source.SourceParam.{SourceParam}
use Rattle.rh_rule_source.specs.declared.source.SourceFact.{SourceFact}
use Rattle.rh_rule_source.specs.declared.source.SourceRule.{SourceRule}
use Rattle.rh_rule_source.specs.declared.source.SourceItem.{SourceItem}
use Rattle.rh_rule_source.specs.declared.source.SourceItem.TheVariants.{Fact as FactItem, Rule as RuleItem}
use Rattle.rh_rule_source.specs.declared.source.SourceFile.{SourceFile}
use Rattle.rh_rule_source.specs.Grammar.{COMMA, SEMICOLON, CLOSE_PAREN, OPEN_BRACE, CLOSE_BRACE, MEANS}
use Rattle.rh_rule_source.specs.Words.{said, word_of, name_word, word_class}
use Rattle.rh_rule_text.specs.Proper.{is_proper_word}
use Rattle.rh_rule_source.specs.Source.{kind_word, param_words, params_words, atoms_words, fact_words, body_words, rule_words, item_words, header_words, file_words}
use Rattle.rh_rule_text.specs.Resolve.{rule_param, schema_of, rule_of, rules_of, file_schemas}

abbrev AreProper : List Word → Type 0
AreProper words = list_all is_proper_word words ≡ true

split : (xs ys : List Word) → AreProper (xs ++ ys) → AreProper xs × AreProper ys
split xs ys h =
    and_parts (list_all is_proper_word xs) (list_all is_proper_word ys) (sym (list_all-append is_proper_word xs ys) ∙ h)

param_proper : (x : SourceParam) → AreProper (param_words x) → is_upper_name x.name.name ≡ true
param_proper x h =
    (and_parts (is_upper_name x.name.name) true (and_parts (is_proper_word (kind_word x.kind)) (is_upper_name x.name.name && true) h).1).0

more_params : (xs : List SourceParam) → AreProper (flat_map (λ y. Fixed COMMA ∷ param_words y) xs) → are_proper_params (map rule_param xs) ≡ true
more_params [] h = refl
more_params (x ∷ xs) h =
    let parts = split (param_words x) (flat_map (λ y. Fixed COMMA ∷ param_words y) xs) h in
    and_from _ _ (param_proper x parts.0) (more_params xs parts.1)

params_proper : (xs : List SourceParam) → AreProper (params_words xs) → are_proper_params (map rule_param xs) ≡ true
params_proper [] h = refl
params_proper (x ∷ xs) h =
    let parts = split (param_words x) (flat_map (λ y. Fixed COMMA ∷ param_words y) xs) h in
    and_from _ _ (param_proper x parts.0) (more_params xs parts.1)

fact_proper : (f : SourceFact) → AreProper (fact_words f) → schema_is_proper (schema_of f) ≡ true
fact_proper f h =
    let rest = Fixed CLOSE_PAREN ∷ Fixed MEANS ∷ (atoms_words f.atoms ++ Fixed SEMICOLON ∷ []) in
    let parts = and_parts (is_proper f.name.name) (list_all is_proper_word (params_words f.params ++ rest)) h in
    and_from _ _ parts.0 (params_proper f.params (split (params_words f.params) rest parts.1).0)

rule_proper : (facts : List (List ℕ)) (r : SourceRule) → AreProper (rule_words r) → rule_is_proper (rule_of facts r) ≡ true
rule_proper facts r h =
    let rest = Fixed CLOSE_PAREN ∷ Fixed OPEN_BRACE ∷ (body_words r ++ Fixed CLOSE_BRACE ∷ []) in
    let parts = and_parts (is_proper r.name.name) (list_all is_proper_word (params_words r.params ++ rest)) h in
    and_from _ _ parts.0 (params_proper r.params (split (params_words r.params) rest parts.1).0)

schemas_proper : (items : List SourceItem) → AreProper (flat_map item_words items) → list_all schema_is_proper (file_schemas items) ≡ true
schemas_proper [] h = refl
schemas_proper (FactItem f ∷ items) h =
    let parts = split (fact_words f) (flat_map item_words items) h in
    and_from _ _ (fact_proper f parts.0) (schemas_proper items parts.1)
schemas_proper (RuleItem r ∷ items) h = schemas_proper items (split (rule_words r) (flat_map item_words items) h).1

rules_proper : (facts : List (List ℕ)) (items : List SourceItem) → AreProper (flat_map item_words items) → list_all rule_is_proper (flat_map (rules_of facts) items) ≡ true
rules_proper facts [] h = refl
rules_proper facts (FactItem f ∷ items) h =
    rules_proper facts items (split (fact_words f) (flat_map item_words items) h).1
rules_proper facts (RuleItem r ∷ items) h =
    let parts = split (rule_words r) (flat_map item_words items) h in
    and_from _ _ (rule_proper facts r parts.0) (rules_proper facts items parts.1)

-- the names of what a source resolves to
pub names_proper : (source : SourceFile) (facts : List (List ℕ)) → AreProper (file_words source) → are_proper (file_schemas source.items) (flat_map (rules_of facts) source.items) ≡ true
names_proper source facts h =
    let items = (split (header_words source.headed) (flat_map item_words source.items) h).1 in
    and_from _ _ (schemas_proper source.items items) (rules_proper facts source.items items)

name_if : (upper lower : Bool) (bytes : List ℕ) (at class : ℕ) → is_upper_name bytes ≡ upper → is_proper bytes ≡ lower → is_proper_word (cond upper (Upper (record { name = bytes; at = at })) (cond lower (Lower (record { name = bytes; at = at })) (Fixed class))) ≡ true
name_if true lower bytes at class is_upper is_lower = is_upper
name_if false true bytes at class is_upper is_lower = is_lower
name_if false false bytes at class is_upper is_lower = refl

name_proper : (bytes : List ℕ) (at : ℕ) → is_proper_word (name_word bytes at) ≡ true
name_proper bytes at =
    name_if (is_upper_name bytes) (is_proper bytes) bytes at (unwrap_or (word_class bytes) 255) refl refl

said_proper : (kind : TokenKind) (bytes : List ℕ) (at : ℕ) → is_proper_word (said kind bytes at) ≡ true
said_proper LowerKind bytes at = name_proper bytes at
said_proper UpperKind bytes at = name_proper bytes at
said_proper NumberKind bytes at = refl
said_proper (SignKind sign) bytes at = refl

-- what tokens say
pub words_proper : (text : List ℕ) (tokens : List Token) → AreProper (map (word_of text) tokens)
words_proper text [] = refl
words_proper text (t ∷ ts) = and_from _ _ (said_proper t.kind (spelling text t) t.start) (words_proper text ts)
