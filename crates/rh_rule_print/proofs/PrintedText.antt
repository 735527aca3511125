-- What is printed is a text of the same rules.
use Rattle.std.proofs.Common.{◌≡◌, ℕ, List, [], map, None, sym, subst, ◌∙◌}
use Rattle.rh_text.specs.Pieces.{AreTokens, tokens_from}
use Rattle.rh_text.proofs.Printing.{told, tokens_tell, printed_tokens}
use Rattle.rh_grammar.specs.Derivation.{Derivable}
use Rattle.rh_rule.specs.Checks.{file_fault}
use Rattle.rh_rule.specs.RuleFiles.{Rules, IsRuleFile}
use Rattle.rh_rule_source.specs.declared.word.Word.{Word}
use Rattle.rh_rule_source.specs.Grammar.{productions, file}
use Rattle.rh_rule_source.specs.Words.{said, word_of, class_of}
use Rattle.rh_rule_source.specs.Source.{file_words}
use Rattle.rh_rule_source.specs.Spelling.{Spells}
use Rattle.rh_rule_print.specs.Text.{file_text}
use Rattle.rh_rule_text.specs.Reading.{IsText}
use Rattle.rh_rule_parse.proofs.DerivedRules.{words_are_derivable}
use Rattle.rh_rule_print.proofs.Prints.{Prints, Always}
use Rattle.rh_rule_print.proofs.PrintedFiles.{TellsFile, file_printed}
use Rattle.rh_rule_print.proofs.Printable.{file_fits}

-- a text that is printed by pieces spells the source that its words tell
spells : (text : List ℕ) (rules : Rules) (prints : Prints Always text (TellsFile rules)) → Spells text (prints.says 0).source
spells text rules prints =
    let tokens = tokens_from 0 prints.pieces in
    let tells : TellsFile rules (told said 0 prints.pieces) = prints.says 0 in
    let words : map (word_of text) tokens ≡ file_words tells.source =
    subst (λ (t : List ℕ). map (word_of t) tokens ≡ told said 0 prints.pieces) prints.spells (tokens_tell said prints.pieces) ∙ tells.same in
    record {
      tokens = tokens;
      are_tokens = subst (λ (t : List ℕ). AreTokens t tokens) prints.spells (printed_tokens prints.pieces (prints.are [] tt));
      words = record {
        derivable = subst (λ (words : List Word). Derivable productions file (map class_of words)) (sym words) (words_are_derivable tells.source tells.in_range);
        same = words;
      };
    }

is_text : (text : List ℕ) (rules : Rules) → Prints Always text (TellsFile rules) → file_fault rules.schemas rules.rules ≡ None → IsText text rules
is_text text rules prints passes =
    let tells : TellsFile rules (told said 0 prints.pieces) = prints.says 0 in
    record { source = tells.source; spells = spells text rules prints; known = tells.known; told = sym tells.means; passes = passes }

-- the canonical text of a rule file is read as that rule file
pub printed_is_text : (rules : Rules) → IsRuleFile rules → IsText (file_text rules) rules
printed_is_text rules is = is_text (file_text rules) rules (file_printed rules (file_fits rules is is.numbers)) is.passes
