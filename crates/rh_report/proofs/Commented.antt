-- Lines of comments in front of a program's text leave it a text of that program.
use Rattle.std.proofs.Common.{◌≡◌, ℕ, List, [], ◌∷◌, ◌++◌, codes, true, refl, sym, ap, subst, ◌∙◌, append_assoc, append-nil}
use Rattle.std.proofs.lemmas.Bool.{and_parts}
use Rattle.std.specs.Fmt.{decimal}
use Rattle.std.specs.List.{list_all, flat_map}
use Rattle.std.specs.Option.{is_none}
use Rattle.rh_text.specs.Pieces.{Piece, Space, Comment, spelled, ArePieces, tokens_from}
use Rattle.rh_text.proofs.Printing.{printed_tokens}
use Rattle.rh_grammar.specs.Derivation.{Derivable}
use Rattle.rh_il.specs.Checks.{IsProgram, has_proper_names}
use Rattle.rh_il.specs.Name.{is_lower_name}
use Rattle.rh_il.specs.declared.program.Proc.{Proc}
use Rattle.rh_il_source.specs.Grammar.{productions, program}
use Rattle.rh_il_text.specs.Program.{IsText}
use Rattle.rh_il_source.specs.Words.{words_of, classes_of}
use Rattle.rh_il_print.proofs.PieceWords.{words_said}
use Rattle.rh_rule.specs.Keywords.{keyword_of}
use Rattle.rh_rule.specs.RuleFiles.{IsRuleFile, Rules}
use Rattle.rh_rule.specs.Words.{are_proper_params, is_proper, rule_is_proper, schema_is_proper}
use Rattle.rh_rule.specs.declared.rule.Rule.{Rule}
use Rattle.rh_rule.specs.declared.rule.Ruling.{Ruling}
use Rattle.rh_rule.specs.declared.rule.Ruling.TheVariants.{Admitted, Refused}
use Rattle.rh_rule.specs.declared.schema.Schema.{Schema}
use Rattle.rh_domain.specs.declared.fact.FactAt.{FactAt}
use Rattle.rh_domain.specs.Facts.{Known, all_facts}
use Rattle.std.specs.Prelude.{filter}
use Rattle.rh_report.specs.Output.{fact_line, fact_lines, rule_line, rule_lines}
use Rattle.rh_report.proofs.Free.{IsFree, decimal_is_free, fact_body, fact_is_free, free_joined, name_is_free}

-- in front of a text of a program they leave it one
abbrev pub AreComments : List ℕ → Type 0
AreComments bytes = (text : List ℕ) (procs : List Proc) → IsText text procs → IsText (bytes ++ text) procs

-- a line after `#`
one_comment : (line : List ℕ) → IsFree line → AreComments (35 ∷ line ++ 10 ∷ [])
one_comment line free text procs is =
    let pieces = is.spells.are_tokens.pieces in
    let longer : List Piece = Comment line ∷ Space 10 ∷ pieces in
    let whole : text ≡ flat_map spelled pieces = is.spells.are_tokens.split.whole ∙ append-nil (flat_map spelled pieces) in
    let words : words_of (flat_map spelled longer) (tokens_from 0 longer) ≡ words_of text is.tokens =
    words_said longer ∙ sym (words_said pieces) ∙ (λ i. words_of (sym whole i) (sym is.spells.are_tokens.told i)) in
    let each : ArePieces longer [] = (
      record { form = free; longest = refl; within = tt },
      (record { form = refl; longest = tt; within = tt }, is.spells.are_tokens.split.each),
    ) in
    let front : flat_map spelled longer ≡ (35 ∷ line ++ 10 ∷ []) ++ text = ap (λ (t : List ℕ). (35 ∷ line) ++ (10 ∷ t)) (sym whole) ∙ sym (append_assoc (35 ∷ line) (10 ∷ []) text) in
    subst (λ (t : List ℕ). IsText t procs) front
    record {
      tokens = tokens_from 0 longer;
      sources = is.sources;
      spells = record {
        are_tokens = printed_tokens longer each;
        derivable = subst (λ ws. Derivable productions program (classes_of ws)) (sym words) is.spells.derivable;
        spelled = words ∙ is.spells.spelled;
      };
      known = is.known;
      told = is.told;
      passes = is.passes;
    }

-- comments and comments behind them
both : (front back : List ℕ) → AreComments front → AreComments back → AreComments (front ++ back)
both front back first second text procs is = subst (λ (t : List ℕ). IsText t procs) (sym (append_assoc front back text)) (first (back ++ text) procs (second text procs is))

each : {X : Type 0} (line : X → List ℕ) (xs : List X) → ((x : X) → AreComments (line x)) → AreComments (flat_map line xs)
each line [] are = λ text procs is. is
each line (x ∷ xs) are = both (line x) (flat_map line xs) (are x) (each line xs are)

-- the line of a rule, whatever stands after its name
named_comment : (name : List ℕ) (ruled : List ℕ) → IsFree name → IsFree ruled → AreComments (codes "# rule " ++ (name ++ (ruled ++ 10 ∷ [])))
named_comment name ruled free also =
    let line : List ℕ = codes " rule " ++ (name ++ ruled) in
    let whole : 35 ∷ line ++ 10 ∷ [] ≡ codes "# rule " ++ (name ++ (ruled ++ 10 ∷ [])) = ap (λ (l : List ℕ). codes "# rule " ++ l) (append_assoc name ruled (10 ∷ [])) in
    subst AreComments whole (one_comment line (free_joined (codes " rule ") (name ++ ruled) refl (free_joined name ruled free also)))

rule_comment : (rule : Rule) (ruling : Ruling) → IsFree rule.name → AreComments (rule_line rule ruling)
rule_comment rule Admitted named = named_comment rule.name (codes " admitted") named refl
rule_comment rule (Refused n) named =
    let ruled : List ℕ = codes " refused at " ++ decimal n in
    subst AreComments (ap (λ (l : List ℕ). codes "# rule " ++ (rule.name ++ l)) (append_assoc (codes " refused at ") (decimal n) (10 ∷ [])))
    (named_comment rule.name ruled named (free_joined (codes " refused at ") (decimal n) refl (decimal_is_free n)))

rule_named : (rule : Rule) → rule_is_proper rule ≡ true → IsFree rule.name
rule_named rule is =
    name_is_free rule.name (and_parts (is_lower_name rule.name) (is_none (keyword_of rule.name)) (and_parts (is_proper rule.name) (are_proper_params rule.params) is).0).0

-- the lines of all rules
rule_comments : (rules : List Rule) (rulings : List Ruling) → list_all rule_is_proper rules ≡ true → AreComments (rule_lines rules rulings)
rule_comments [] rulings named = λ text procs is. is
rule_comments (rule ∷ rules) [] named = λ text procs is. is
rule_comments (rule ∷ rules) (ruling ∷ rulings) named =
    let parts = and_parts (rule_is_proper rule) (list_all rule_is_proper rules) named in
    both (rule_line rule ruling) (rule_lines rules rulings) (rule_comment rule ruling (rule_named rule parts.0)) (rule_comments rules rulings parts.1)

-- the lines of facts
fact_comment : (schemas : List Schema) (procs : List Proc) → list_all schema_is_proper schemas ≡ true → list_all has_proper_names procs ≡ true → (fact : FactAt) → AreComments (fact_line schemas procs fact)
fact_comment schemas procs schemas_named procs_named fact = one_comment (fact_body schemas procs fact) (fact_is_free schemas procs schemas_named procs_named fact)

-- the lines before the program
pub comments : (file : Rules) (rulings : List Ruling) (procs : List Proc) (known : Known) → IsRuleFile file → IsProgram procs → AreComments (rule_lines file.rules rulings ++ fact_lines file.schemas procs known)
comments file rulings procs known is_file is_program =
    let named = and_parts (list_all schema_is_proper file.schemas) (list_all rule_is_proper file.rules) is_file.names in
    both (rule_lines file.rules rulings) (fact_lines file.schemas procs known) (rule_comments file.rules rulings named.1)
    (each (fact_line file.schemas procs) (filter known (all_facts file.schemas procs)) (fact_comment file.schemas procs named.0 is_program.names))
