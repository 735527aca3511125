-- The words of a rule file and of its parts.
use Rattle.std.specs.Prelude.{ℕ, Bool, true, false, List, [], ◌∷◌, ◌++◌, Option, Some, None}
use Rattle.std.specs.List.{flat_map}
use Rattle.rh_il.specs.declared.value.Op.{Op}
use Rattle.rh_il.specs.declared.value.Op.TheVariants.{Add, Sub, Mul, Less, Equal}
use Rattle.rh_il.specs.declared.program.Slot.{Slot}
use Rattle.rh_il.specs.declared.program.Slot.TheVariants.{Out, Then, Else}
use Rattle.rh_rule.specs.declared.schema.Kind.{Kind}
use Rattle.rh_rule.specs.declared.schema.Kind.TheVariants.{Var, Const}
use Rattle.rh_rule_source.specs.declared.word.Spelled.{Spelled}
use Rattle.rh_rule_source.specs.declared.word.Word.{Word}
use Rattle.rh_rule_source.specs.declared.word.Word.TheVariants.{Fixed, Lower, Upper, Number}
use Rattle.rh_rule_source.specs.declared.source.SourceBase.{SourceBase}
use Rattle.rh_rule_source.specs.declared.source.SourceBase.TheVariants.{Named, Num}
use Rattle.rh_rule_source.specs.declared.source.SourceOperand.{SourceOperand}
use Rattle.rh_rule_source.specs.declared.source.SourceOperand.TheVariants.{Wild, Plain as PlainOperand}
use Rattle.rh_rule_source.specs.declared.source.SourceOperation.{SourceOperation}
use Rattle.rh_rule_source.specs.declared.source.SourceParam.{SourceParam}
use Rattle.rh_rule_source.specs.declared.source.Relation.{Relation}
use Rattle.rh_rule_source.specs.declared.source.Relation.TheVariants.{Same, Differ}
use Rattle.rh_rule_source.specs.declared.source.SourceTerm.{SourceTerm}
use Rattle.rh_rule_source.specs.declared.source.SourceTerm.TheVariants.{Plain as PlainTerm, Address as AddressTerm, Deref, Compute as ComputedTerm}
use Rattle.rh_rule_source.specs.declared.source.SourceAtom.{SourceAtom}
use Rattle.rh_rule_source.specs.declared.source.SourceAtom.TheVariants.{IsNumber, IsPointer, Unaliased, Compare}
use Rattle.rh_rule_source.specs.declared.source.SourceFact.{SourceFact}
use Rattle.rh_rule_source.specs.declared.source.SourceRight.{SourceRight}
use Rattle.rh_rule_source.specs.declared.source.SourceRight.TheVariants.{Any, New, Address as AddressRight, Load, Call, Plain as PlainRight, Compute as ComputedRight}
use Rattle.rh_rule_source.specs.declared.source.SourceForm.{SourceForm}
use Rattle.rh_rule_source.specs.declared.source.SourceForm.TheVariants.{Skip, Write, If, Return, Assign}
use Rattle.rh_rule_source.specs.declared.source.SourcePattern.{SourcePattern}
use Rattle.rh_rule_source.specs.declared.source.SourcePattern.TheVariants.{Entry, Goto, Form}
use Rattle.rh_rule_source.specs.declared.source.SourceUse.{SourceUse}
use Rattle.rh_rule_source.specs.declared.source.SourceSide.{SourceSide}
use Rattle.rh_rule_source.specs.declared.source.SourceSide.TheVariants.{Plain as PlainSide, Compute as ComputedSide}
use Rattle.rh_rule_source.specs.declared.source.SourceCond.{SourceCond}
use Rattle.rh_rule_source.specs.declared.source.SourceCond.TheVariants.{Fact as FactCond, Side}
use Rattle.rh_rule_source.specs.declared.source.SourceConclusion.{SourceConclusion}
use Rattle.rh_rule_source.specs.declared.source.SourceConclusion.TheVariants.{Fact as FactConclusion, Transform}
use Rattle.rh_rule_source.specs.declared.source.SourceRule.{SourceRule}
use Rattle.rh_rule_source.specs.declared.source.SourceItem.{SourceItem}
use Rattle.rh_rule_source.specs.declared.source.SourceItem.TheVariants.{Fact as FactItem, Rule as RuleItem}
use Rattle.rh_rule_source.specs.declared.source.SourceFile.{SourceFile}
use Rattle.rh_rule_source.specs.Grammar.{BECOMES, EQUAL, DIFFER, ARROW, SEMICOLON, COMMA, OPEN_PAREN, CLOSE_PAREN, OPEN_BRACE, CLOSE_BRACE, PLUS, MINUS, STAR, LESS, AMPERSAND, AT, UNDERSCORE, RHODIUM, FACT, MEANS, AND, NUMBER_OF, POINTER, UNALIASED, RULE, WHEN, ENTRY, GOTO, SKIP, IF, RETURN, NEW, CALL, VAR, CONST, IN, OUT, THEN, ELSE, TRANSFORM}

-- items with a word between each and the next
abbrev pub separated : {T : Type 0} → (T → List Word) → Word → List T → List Word
separated words between [] = []
separated words between (x ∷ xs) = words x ++ flat_map (λ y. between ∷ words y) xs

-- a number with its sign
abbrev pub number_words : Bool → ℕ → List Word
number_words true size = Fixed MINUS ∷ Number size ∷ []
number_words false size = Number size ∷ []

abbrev pub base_words : SourceBase → List Word
base_words (Named name) = Upper name ∷ []
base_words (Num negative size) = number_words negative size

abbrev pub operand_words : SourceOperand → List Word
operand_words Wild = Fixed UNDERSCORE ∷ []
operand_words (PlainOperand base) = base_words base

abbrev pub op_word : Op → Word
op_word Add = Fixed PLUS
op_word Sub = Fixed MINUS
op_word Mul = Fixed STAR
op_word Less = Fixed LESS
op_word Equal = Fixed EQUAL

-- `b op c`
abbrev pub operation_words : SourceOperation → List Word
operation_words o = base_words o.left ++ op_word o.op ∷ base_words o.right

-- `(b op c)`
abbrev pub computed_words : SourceOperation → List Word
computed_words o = Fixed OPEN_PAREN ∷ (operation_words o ++ Fixed CLOSE_PAREN ∷ [])

abbrev pub relation_word : Relation → Word
relation_word Same = Fixed EQUAL
relation_word Differ = Fixed DIFFER

abbrev pub kind_word : Kind → Word
kind_word Var = Fixed VAR
kind_word Const = Fixed CONST

abbrev pub param_words : SourceParam → List Word
param_words p = kind_word p.kind ∷ Upper p.name ∷ []

abbrev pub params_words : List SourceParam → List Word
params_words params = separated param_words (Fixed COMMA) params

abbrev pub term_words : SourceTerm → List Word
term_words (PlainTerm base) = base_words base
term_words (AddressTerm name) = Fixed AMPERSAND ∷ Upper name ∷ []
term_words (Deref name) = Fixed STAR ∷ Upper name ∷ []
term_words (ComputedTerm operation) = computed_words operation

-- `(t)`
abbrev pub bracketed_words : SourceTerm → List Word
bracketed_words term = Fixed OPEN_PAREN ∷ (term_words term ++ Fixed CLOSE_PAREN ∷ [])

-- `(X)`
abbrev pub bracketed_name_words : Spelled → List Word
bracketed_name_words name = Fixed OPEN_PAREN ∷ Upper name ∷ Fixed CLOSE_PAREN ∷ []

abbrev pub atom_words : SourceAtom → List Word
atom_words (IsNumber term) = Fixed NUMBER_OF ∷ bracketed_words term
atom_words (IsPointer term) = Fixed POINTER ∷ bracketed_words term
atom_words (Unaliased name) = Fixed UNALIASED ∷ bracketed_name_words name
atom_words (Compare left relation right) = term_words left ++ relation_word relation ∷ term_words right

abbrev pub atoms_words : List SourceAtom → List Word
atoms_words atoms = separated atom_words (Fixed AND) atoms

abbrev pub fact_words : SourceFact → List Word
fact_words f =
    Fixed FACT ∷ Lower f.name ∷ Fixed OPEN_PAREN ∷ (params_words f.params ++ Fixed CLOSE_PAREN ∷ Fixed MEANS ∷ (atoms_words f.atoms ++ Fixed SEMICOLON ∷ []))

-- what may stand after an operand to the right of `:=`
abbrev pub operation_rest : Option (Op × SourceBase) → List Word
operation_rest None = []
operation_rest (Some operation) = op_word operation.0 ∷ base_words operation.1

-- `(b)`
abbrev pub bracketed_operand_words : SourceOperand → List Word
bracketed_operand_words operand = Fixed OPEN_PAREN ∷ (operand_words operand ++ Fixed CLOSE_PAREN ∷ [])

abbrev pub right_words : SourceRight → List Word
right_words Any = Fixed UNDERSCORE ∷ []
right_words New = Fixed NEW ∷ []
right_words (AddressRight name) = Fixed AMPERSAND ∷ Upper name ∷ []
right_words (Load name) = Fixed STAR ∷ Upper name ∷ []
right_words (Call arg) = Fixed CALL ∷ bracketed_operand_words arg
right_words (PlainRight base) = base_words base
right_words (ComputedRight operation) = operation_words operation

abbrev pub form_words : SourceForm → List Word
form_words Skip = Fixed SKIP ∷ []
form_words (Write to from) = Fixed STAR ∷ Upper to ∷ Fixed BECOMES ∷ operand_words from
form_words (If operand) = Fixed IF ∷ operand_words operand
form_words (Return operand) = Fixed RETURN ∷ operand_words operand
form_words (Assign to right) = Upper to ∷ Fixed BECOMES ∷ right_words right

abbrev pub pattern_words : SourcePattern → List Word
pattern_words (Entry name) = Fixed ENTRY ∷ bracketed_name_words name
pattern_words Goto = Fixed GOTO ∷ []
pattern_words (Form form) = form_words form

abbrev pub args_words : List SourceBase → List Word
args_words args = separated base_words (Fixed COMMA) args

abbrev pub use_words : SourceUse → List Word
use_words u = Lower u.name ∷ Fixed OPEN_PAREN ∷ (args_words u.args ++ Fixed CLOSE_PAREN ∷ [])

abbrev pub side_words : SourceSide → List Word
side_words (PlainSide base) = base_words base
side_words (ComputedSide operation) = computed_words operation

abbrev pub cond_words : SourceCond → List Word
cond_words (FactCond u) = use_words u ++ Fixed AT ∷ Fixed IN ∷ []
cond_words (Side left relation right) = side_words left ++ relation_word relation ∷ side_words right

abbrev pub conds_words : List SourceCond → List Word
conds_words conds = separated cond_words (Fixed COMMA) conds

-- the conditions after `when`, which is left out where there is none
abbrev pub when_words : List SourceCond → List Word
when_words [] = []
when_words (first ∷ others) = Fixed WHEN ∷ conds_words (first ∷ others)

abbrev pub slot_word : Slot → Word
slot_word Out = Fixed OUT
slot_word Then = Fixed THEN
slot_word Else = Fixed ELSE

abbrev pub conclusion_words : SourceConclusion → List Word
conclusion_words (FactConclusion u slot) = use_words u ++ Fixed AT ∷ slot_word slot ∷ []
conclusion_words (Transform form) = Fixed TRANSFORM ∷ form_words form

-- what stands between the braces of a rule
abbrev pub body_words : SourceRule → List Word
body_words r = pattern_words r.pattern ++ (when_words r.conds ++ Fixed ARROW ∷ conclusion_words r.conclusion)

abbrev pub rule_words : SourceRule → List Word
rule_words r =
    Fixed RULE ∷ Lower r.name ∷ Fixed OPEN_PAREN ∷ (params_words r.params ++ Fixed CLOSE_PAREN ∷ Fixed OPEN_BRACE ∷ (body_words r ++ Fixed CLOSE_BRACE ∷ []))

abbrev pub item_words : SourceItem → List Word
item_words (FactItem fact) = fact_words fact
item_words (RuleItem rule) = rule_words rule

-- the header, if there is one
abbrev pub header_words : Bool → List Word
header_words true = Fixed RHODIUM ∷ Number 1 ∷ Fixed SEMICOLON ∷ []
header_words false = []

abbrev pub file_words : SourceFile → List Word
file_words f = header_words f.headed ++ flat_map item_words f.items
