-- The words of a rule file are those of one source.
use Rattle.std.proofs.Common.{◌≡◌, ℕ, Bool, true, false, List, [], ◌∷◌, ◌++◌, refl, sym, ap, ◌∙◌, arith}
use Rattle.std.specs.Prelude.{◌==◌}
use Rattle.std.specs.List.{flat_map}
use Rattle.rh_rule_source.specs.declared.word.Word.{Word}
use Rattle.rh_rule_source.specs.declared.source.SourceItem.{SourceItem}
use Rattle.rh_rule_source.specs.declared.source.SourceItem.TheVariants.{Fact as FactItem, Rule as RuleItem}
use Rattle.rh_rule_source.specs.declared.source.SourceFile.{SourceFile}
use Rattle.rh_rule_source.specs.Grammar.{FACT, RHODIUM, RULE}
use Rattle.rh_rule_source.specs.Source.{item_words, header_words, file_words}
use Rattle.rh_rule_source.specs.Words.{class_of}
use Rattle.rh_rule_source.proofs.OneWay.{OneWay, NoneBegins, first_class, other_words, one_repeated}
use Rattle.rh_rule_source.proofs.OneFact.{one_fact}
use Rattle.rh_rule_source.proofs.OneRule.{one_rule}

abbrev item_shape : SourceItem → ℕ
item_shape (FactItem fact) = FACT
item_shape (RuleItem rule) = RULE

item_told : (x : SourceItem) (r : List Word) → first_class (item_words x ++ r) ≡ item_shape x
item_told (FactItem fact) r = refl
item_told (RuleItem rule) r = refl

one_item : OneWay item_words
one_item (FactItem a) (FactItem b) r s e =
    let fact = one_fact a b r s e in
    record { value = ap FactItem fact.value; rest = fact.rest }
one_item (RuleItem a) (RuleItem b) r s e =
    let rule = one_rule a b r s e in
    record { value = ap RuleItem rule.value; rest = rule.rest }
one_item a b r s e =
    let shapes : item_shape a ≡ item_shape b = sym (item_told a r) ∙ ap first_class e ∙ item_told b s in
    absurd (omega arith)

no_item : NoneBegins item_words []
no_item (FactItem fact) ws e = absurd cc
no_item (RuleItem rule) ws e = absurd cc

-- whether words begin with the header, which the first word tells, since no fact and no rule begins with it
abbrev begins_headed : List Word → Bool
begins_headed [] = false
begins_headed (word ∷ words) = class_of word == RHODIUM

header_told : (headed : Bool) (items : List SourceItem) → begins_headed (header_words headed ++ flat_map item_words items) ≡ headed
header_told true items = refl
header_told false [] = refl
header_told false (FactItem fact ∷ items) = refl
header_told false (RuleItem rule ∷ items) = refl

one_headed : (a b : Bool) (xs ys : List SourceItem) → header_words a ++ flat_map item_words xs ≡ header_words b ++ flat_map item_words ys → (a ≡ b) × (xs ≡ ys)
one_headed true true xs ys e =
    (refl, one_repeated item_words one_item no_item xs ys (other_words _ _ _ _ (other_words _ _ _ _ (other_words _ _ _ _ e))))
one_headed false false xs ys e = (refl, one_repeated item_words one_item no_item xs ys e)
one_headed a b xs ys e =
    let same : a ≡ b = sym (header_told a xs) ∙ ap begins_headed e ∙ header_told b ys in
    absurd cc

pub file_words_unique : (a b : SourceFile) → file_words a ≡ file_words b → a ≡ b
file_words_unique a b e =
    let same = one_headed a.headed b.headed a.items b.items e in
    λ i. record { headed = same.0 i; items = same.1 i }
