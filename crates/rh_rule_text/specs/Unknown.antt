-- Names that are used and not declared.
use Rattle.std.specs.Prelude.{ℕ, List, [], ◌∷◌, Option, Some, None, if◌then◌else◌}
use Rattle.std.specs.List.{flat_map, list_any}
use Rattle.std.specs.Option.{option_or}
use Rattle.std.specs.Str.{bytes_eq}
use Rattle.rh_rule_source.specs.declared.word.Spelled.{Spelled}
use Rattle.rh_rule_source.specs.declared.source.SourceBase.{SourceBase}
use Rattle.rh_rule_source.specs.declared.source.SourceBase.TheVariants.{Named, Num}
use Rattle.rh_rule_source.specs.declared.source.SourceOperand.{SourceOperand}
use Rattle.rh_rule_source.specs.declared.source.SourceOperand.TheVariants.{Wild, Plain as PlainOperand}
use Rattle.rh_rule_source.specs.declared.source.SourceOperation.{SourceOperation}
use Rattle.rh_rule_source.specs.declared.source.SourceTerm.{SourceTerm}
use Rattle.rh_rule_source.specs.declared.source.SourceTerm.TheVariants.{Plain as PlainTerm, Address as AddressTerm, Deref, Compute as ComputedTerm}
use Rattle.rh_rule_source.specs.declared.source.SourceAtom.{SourceAtom}
use Rattle.rh_rule_source.specs.declared.source.SourceAtom.TheVariants.{IsNumber, IsPointer, Unaliased, Compare}
use Rattle.rh_rule_source.specs.declared.source.SourceFact.{SourceFact}
use Rattle.rh_rule_source.specs.declared.source.SourceRight.{SourceRight}
use Rattle.rh_rule_source.specs.declared.source.SourceRight.TheVariants.{Any, New, Address as AddressRight, Load, Call, Plain as PlainRight, Compute as ComputedRight}
use Rattle.rh_rule_source.specs.declared.source.SourceForm.{SourceForm}
use Rattle.rh_rule_source.specs.declared.source.SourceForm.TheVariants.{Skip, Write, If, Return, Assign}
use Rattle.rh_rule_source.specs.declared.source.SourcePattern.{SourcePattern}
use Rattle.rh_rule_source.specs.declared.source.SourcePattern.TheVariants.{Entry, Goto, Form}
use Rattle.rh_rule_source.specs.declared.source.SourceUse.{SourceUse}
use Rattle.rh_rule_source.specs.declared.source.SourceSide.{SourceSide}
use Rattle.rh_rule_source.specs.declared.source.SourceSide.TheVariants.{Plain as PlainSide, Compute as ComputedSide}
use Rattle.rh_rule_source.specs.declared.source.SourceCond.{SourceCond}
use Rattle.rh_rule_source.specs.declared.source.SourceCond.TheVariants.{Fact as FactCond, Side}
use Rattle.rh_rule_source.specs.declared.source.SourceConclusion.{SourceConclusion}
use Rattle.rh_rule_source.specs.declared.source.SourceConclusion.TheVariants.{Fact as FactConclusion, Transform}
use Rattle.rh_rule_source.specs.declared.source.SourceRule.{SourceRule}
use Rattle.rh_rule_source.specs.declared.source.SourceItem.{SourceItem}
use Rattle.rh_rule_source.specs.declared.source.SourceItem.TheVariants.{Fact as FactItem, Rule as RuleItem}
use Rattle.rh_rule_text.specs.Resolve.{metas_of, fact_names}

-- the first offset that parts have, in their order
abbrev pub first_of : {T : Type 0} → (T → Option ℕ) → List T → Option ℕ
first_of offset [] = None
first_of offset (x ∷ xs) = option_or (offset x) (first_of offset xs)

-- Where a part uses a name that is not among those that are declared: the first such place in the
-- order of the text.
abbrev pub unknown : List (List ℕ) → Spelled → Option ℕ
unknown names s = if list_any (bytes_eq s.name) names then None else Some s.at

abbrev pub unknown_base : List (List ℕ) → SourceBase → Option ℕ
unknown_base metas (Named name) = unknown metas name
unknown_base metas (Num negative size) = None

abbrev pub unknown_operand : List (List ℕ) → SourceOperand → Option ℕ
unknown_operand metas Wild = None
unknown_operand metas (PlainOperand base) = unknown_base metas base

abbrev pub unknown_operation : List (List ℕ) → SourceOperation → Option ℕ
unknown_operation metas o = option_or (unknown_base metas o.left) (unknown_base metas o.right)

abbrev pub unknown_term : List (List ℕ) → SourceTerm → Option ℕ
unknown_term metas (PlainTerm base) = unknown_base metas base
unknown_term metas (AddressTerm name) = unknown metas name
unknown_term metas (Deref name) = unknown metas name
unknown_term metas (ComputedTerm o) = unknown_operation metas o

abbrev pub unknown_atom : List (List ℕ) → SourceAtom → Option ℕ
unknown_atom metas (IsNumber term) = unknown_term metas term
unknown_atom metas (IsPointer term) = unknown_term metas term
unknown_atom metas (Unaliased name) = unknown metas name
unknown_atom metas (Compare left relation right) = option_or (unknown_term metas left) (unknown_term metas right)

abbrev pub unknown_fact : SourceFact → Option ℕ
unknown_fact f = first_of (unknown_atom (metas_of f.params)) f.atoms

abbrev pub unknown_right : List (List ℕ) → SourceRight → Option ℕ
unknown_right metas Any = None
unknown_right metas New = None
unknown_right metas (AddressRight name) = unknown metas name
unknown_right metas (Load name) = unknown metas name
unknown_right metas (Call arg) = unknown_operand metas arg
unknown_right metas (PlainRight base) = unknown_base metas base
unknown_right metas (ComputedRight o) = unknown_operation metas o

abbrev pub unknown_form : List (List ℕ) → SourceForm → Option ℕ
unknown_form metas Skip = None
unknown_form metas (Write to from) = option_or (unknown metas to) (unknown_operand metas from)
unknown_form metas (If operand) = unknown_operand metas operand
unknown_form metas (Return operand) = unknown_operand metas operand
unknown_form metas (Assign to right) = option_or (unknown metas to) (unknown_right metas right)

abbrev pub unknown_pattern : List (List ℕ) → SourcePattern → Option ℕ
unknown_pattern metas (Entry name) = unknown metas name
unknown_pattern metas Goto = None
unknown_pattern metas (Form form) = unknown_form metas form

abbrev pub unknown_use : List (List ℕ) → List (List ℕ) → SourceUse → Option ℕ
unknown_use facts metas u = option_or (unknown facts u.name) (first_of (unknown_base metas) u.args)

abbrev pub unknown_side : List (List ℕ) → SourceSide → Option ℕ
unknown_side metas (PlainSide base) = unknown_base metas base
unknown_side metas (ComputedSide o) = unknown_operation metas o

abbrev pub unknown_cond : List (List ℕ) → List (List ℕ) → SourceCond → Option ℕ
unknown_cond facts metas (FactCond u) = unknown_use facts metas u
unknown_cond facts metas (Side left relation right) = option_or (unknown_side metas left) (unknown_side metas right)

abbrev pub unknown_conclusion : List (List ℕ) → List (List ℕ) → SourceConclusion → Option ℕ
unknown_conclusion facts metas (FactConclusion u slot) = unknown_use facts metas u
unknown_conclusion facts metas (Transform form) = unknown_form metas form

abbrev pub unknown_rule : List (List ℕ) → SourceRule → Option ℕ
unknown_rule facts r =
    let metas = metas_of r.params in
    option_or (unknown_pattern metas r.pattern) (option_or (first_of (unknown_cond facts metas) r.conds) (unknown_conclusion facts metas r.conclusion))

abbrev pub unknown_item : List (List ℕ) → SourceItem → Option ℕ
unknown_item facts (FactItem fact) = unknown_fact fact
unknown_item facts (RuleItem rule) = unknown_rule facts rule

-- the first unknown name of a file
abbrev pub unknown_name : List SourceItem → Option ℕ
unknown_name items = first_of (unknown_item (flat_map fact_names items)) items
