-- A text is of one rule file, or has one fault.
use Rattle.std.proofs.Common.{◌≡◌, ℕ, List, map, Option, Some, None, refl, sym, ap, subst, ◌∙◌}
use Rattle.rh_text.specs.declared.token.Token.{Token}
use Rattle.rh_text.proofs.Unique.{tokens_unique, tokens_have_no_fault, one_first_fault}
use Rattle.rh_grammar.specs.Derivation.{IsSyntaxFault}
use Rattle.rh_grammar.proofs.Faults.{one_syntax_place, derivable_has_no_fault}
use Rattle.rh_rule.specs.declared.fault.RuleFault.{RuleFault}
use Rattle.rh_rule.specs.RuleFiles.{Rules}
use Rattle.rh_rule.specs.Checks.{file_fault}
use Rattle.rh_rule_source.specs.declared.source.SourceFile.{SourceFile}
use Rattle.rh_rule_text.specs.declared.fault.RulesFault.{RulesFault}
use Rattle.rh_rule_text.specs.declared.fault.RulesFault.TheVariants.{Lex, Syntax, Unknown, Rules as WrongRules, NoMemory}
use Rattle.rh_rule_source.specs.Grammar.{productions, file}
use Rattle.rh_rule_source.specs.Spelling.{Spells, classes}
use Rattle.rh_rule_source.specs.Words.{word_of}
use Rattle.rh_rule_text.specs.Unknown.{unknown_name}
use Rattle.rh_rule_text.specs.Reading.{offset_at, resolved, IsText, IsSyntaxAt, IsUnknownAt, FailsCheck, FaultsAs}
use Rattle.rh_rule_source.proofs.OneFile.{file_words_unique}

-- a text spells one source
pub one_source : (text : List ℕ) (a b : SourceFile) → Spells text a → Spells text b → a ≡ b
one_source text a b first second =
    let tokens = tokens_unique text first.tokens second.tokens first.are_tokens second.are_tokens in
    file_words_unique a b (sym first.words.same ∙ ap (λ (ts : List Token). map (word_of text) ts) tokens ∙ second.words.same)

pub one_rule_file : (text : List ℕ) (a b : Rules) → IsText text a → IsText text b → a ≡ b
one_rule_file text a b first second =
    first.told ∙ ap resolved (one_source text first.source second.source first.spells second.spells) ∙ sym second.told

-- the tokens of a source are derived, so that no syntax fault is there
no_syntax_fault : (text : List ℕ) (source : SourceFile) (offset : ℕ) → Spells text source → IsSyntaxAt text offset → ⊥
no_syntax_fault text source offset spells there =
    let tokens = tokens_unique text there.tokens spells.tokens there.are_tokens spells.are_tokens in
    derivable_has_no_fault productions file (classes text spells.tokens) there.place spells.words.derivable
    (subst (λ (ts : List Token). IsSyntaxFault productions file (classes text ts) there.place) tokens there.fault)

-- what is missing is not there
is_none_or_some : {T : Type 0} (o : Option T) (x : T) → o ≡ None → o ≡ Some x → ⊥
is_none_or_some o x none_ some_ = absurd cc

same_some : {T : Type 0} (o : Option T) (x y : T) → o ≡ Some x → o ≡ Some y → x ≡ y
same_some o x y first second = cc

all_known : (text : List ℕ) (source : SourceFile) (offset : ℕ) → Spells text source → unknown_name source.items ≡ None → IsUnknownAt text offset → ⊥
all_known text source offset spells known there =
    let same = one_source text source there.source spells there.spells in
    is_none_or_some (unknown_name there.source.items) offset (ap (λ (s : SourceFile). unknown_name s.items) (sym same) ∙ known) there.unknown

passes_no_check_fails : (text : List ℕ) (rules : Rules) (fault : RuleFault) → IsText text rules → FailsCheck text fault → ⊥
passes_no_check_fails text rules fault is fails =
    let same = one_source text is.source fails.source is.spells fails.spells in
    let checks = λ (r : Rules). file_fault r.schemas r.rules in
    is_none_or_some (checks (resolved fails.source)) fault (ap checks (ap resolved (sym same) ∙ sym is.told) ∙ is.passes) fails.fails

-- what is a text has no fault
pub texts_have_no_fault : (text : List ℕ) (rules : Rules) (f : RulesFault) → IsText text rules → FaultsAs text f → f ≡ NoMemory
texts_have_no_fault text rules (Lex fault) is faults =
    absurd (tokens_have_no_fault text is.spells.tokens fault is.spells.are_tokens faults)
texts_have_no_fault text rules (Syntax offset) is faults = absurd (no_syntax_fault text is.source offset is.spells faults)
texts_have_no_fault text rules (Unknown offset) is faults = absurd (all_known text is.source offset is.spells is.known faults)
texts_have_no_fault text rules (WrongRules fault) is faults = absurd (passes_no_check_fails text rules fault is faults)
texts_have_no_fault text rules NoMemory is faults = refl

one_offset : (text : List ℕ) (a b : ℕ) → IsSyntaxAt text a → IsSyntaxAt text b → a ≡ b
one_offset text a b first second =
    let tokens = tokens_unique text first.tokens second.tokens first.are_tokens second.are_tokens in
    let place = one_syntax_place productions file (classes text second.tokens) first.place second.place
    (subst (λ (ts : List Token). IsSyntaxFault productions file (classes text ts) first.place) tokens first.fault) second.fault in
    first.told ∙ ap (λ (ts : List Token). offset_at text ts first.place) tokens ∙ ap (offset_at text second.tokens) place ∙ sym second.told

one_unknown : (text : List ℕ) (a b : ℕ) → IsUnknownAt text a → IsUnknownAt text b → a ≡ b
one_unknown text a b first second =
    let same = one_source text first.source second.source first.spells second.spells in
    same_some (unknown_name second.source.items) a b (ap (λ (s : SourceFile). unknown_name s.items) (sym same) ∙ first.unknown) second.unknown

one_check : (text : List ℕ) (a b : RuleFault) → FailsCheck text a → FailsCheck text b → a ≡ b
one_check text a b first second =
    let same = one_source text first.source second.source first.spells second.spells in
    let checks = λ (s : SourceFile). file_fault (resolved s).schemas (resolved s).rules in
    same_some (checks second.source) a b (ap checks (sym same) ∙ first.fails) second.fails

-- a text has one fault, but for want of memory
pub one_fault : (text : List ℕ) (f g : RulesFault) → FaultsAs text f → FaultsAs text g → (f ≡ NoMemory → ⊥) → (g ≡ NoMemory → ⊥) → f ≡ g
one_fault text NoMemory g first second no_f no_g = absurd (no_f refl)
one_fault text f NoMemory first second no_f no_g = absurd (no_g refl)
one_fault text (Lex f) (Lex g) first second no_f no_g = ap Lex (one_first_fault text f g first second)
one_fault text (Lex f) (Syntax at) first second no_f no_g = absurd (tokens_have_no_fault text second.tokens f second.are_tokens first)
one_fault text (Lex f) (Unknown at) first second no_f no_g =
    absurd (tokens_have_no_fault text second.spells.tokens f second.spells.are_tokens first)
one_fault text (Lex f) (WrongRules g) first second no_f no_g =
    absurd (tokens_have_no_fault text second.spells.tokens f second.spells.are_tokens first)
one_fault text (Syntax at) (Lex g) first second no_f no_g = absurd (tokens_have_no_fault text first.tokens g first.are_tokens second)
one_fault text (Syntax a) (Syntax b) first second no_f no_g = ap Syntax (one_offset text a b first second)
one_fault text (Syntax a) (Unknown b) first second no_f no_g = absurd (no_syntax_fault text second.source a second.spells first)
one_fault text (Syntax a) (WrongRules g) first second no_f no_g = absurd (no_syntax_fault text second.source a second.spells first)
one_fault text (Unknown at) (Lex g) first second no_f no_g =
    absurd (tokens_have_no_fault text first.spells.tokens g first.spells.are_tokens second)
one_fault text (Unknown a) (Syntax b) first second no_f no_g = absurd (no_syntax_fault text first.source b first.spells second)
one_fault text (Unknown a) (Unknown b) first second no_f no_g = ap Unknown (one_unknown text a b first second)
one_fault text (Unknown a) (WrongRules g) first second no_f no_g = absurd (all_known text second.source a second.spells second.known first)
one_fault text (WrongRules f) (Lex g) first second no_f no_g =
    absurd (tokens_have_no_fault text first.spells.tokens g first.spells.are_tokens second)
one_fault text (WrongRules f) (Syntax b) first second no_f no_g = absurd (no_syntax_fault text first.source b first.spells second)
one_fault text (WrongRules f) (Unknown b) first second no_f no_g = absurd (all_known text first.source b first.spells first.known second)
one_fault text (WrongRules f) (WrongRules g) first second no_f no_g = ap WrongRules (one_check text f g first second)
