-- The schemas and the rules of a rule file: its names as numbers.
use Rattle.std.specs.Prelude.{ℕ, ◌^◌, ◌-◌, ℤ, pos, Bool, min, List, [], ◌∷◌, map, unwrap_or}
use Rattle.std.specs.List.{flat_map, position}
use Rattle.std.specs.Str.{bytes_eq}
use Rattle.rh_text.specs.Decimal.{signed}
use Rattle.rh_rule.specs.declared.schema.Param.{Param as RuleParam}
use Rattle.rh_rule.specs.declared.schema.MeaningBase.{MeaningBase}
use Rattle.rh_rule.specs.declared.schema.MeaningBase.TheVariants.{Param, Num as MeaningNum}
use Rattle.rh_rule.specs.declared.schema.MeaningTerm.{MeaningTerm}
use Rattle.rh_rule.specs.declared.schema.MeaningTerm.TheVariants.{Plain as MeaningPlain, Address as MeaningAddress, Deref as MeaningDeref, Compute as MeaningCompute}
use Rattle.rh_rule.specs.declared.schema.MeaningAtom.{MeaningAtom}
use Rattle.rh_rule.specs.declared.schema.MeaningAtom.TheVariants.{Same as SameAtom, Differ as DifferAtom, IsNumber as NumberAtom, IsPointer as PointerAtom, Unaliased as UnaliasedAtom}
use Rattle.rh_rule.specs.declared.schema.Schema.{Schema}
use Rattle.rh_rule.specs.declared.rule.RuleBase.{RuleBase}
use Rattle.rh_rule.specs.declared.rule.RuleBase.TheVariants.{Meta, Num as RuleNum, Wild as AnyBase}
use Rattle.rh_rule.specs.declared.rule.Form.{Form as RuleForm}
use Rattle.rh_rule.specs.declared.rule.Form.TheVariants.{Entry as EntryForm, Goto as GotoForm, Skip as SkipForm, AnyAssign as AnyAssignForm, Assign as AssignForm, Address as AddressForm, Load as LoadForm, Compute as ComputeForm, Write as WriteForm, New as NewForm, Call as CallForm, If as IfForm, Return as ReturnForm}
use Rattle.rh_rule.specs.declared.rule.FactUse.{FactUse}
use Rattle.rh_rule.specs.declared.rule.SideTerm.{SideTerm}
use Rattle.rh_rule.specs.declared.rule.SideTerm.TheVariants.{Plain as PlainTermOfSide, Compute as ComputeTermOfSide}
use Rattle.rh_rule.specs.declared.rule.Side.{Side as RuleSide}
use Rattle.rh_rule.specs.declared.rule.Side.TheVariants.{Same as SameSide, Differ as DifferSide}
use Rattle.rh_rule.specs.declared.rule.Conclusion.{Conclusion}
use Rattle.rh_rule.specs.declared.rule.Conclusion.TheVariants.{Fact as ConcludesFact, Transform as ConcludesForm}
use Rattle.rh_rule.specs.declared.rule.Rule.{Rule}
use Rattle.rh_rule_source.specs.declared.word.Spelled.{Spelled}
use Rattle.rh_rule_source.specs.declared.source.SourceBase.{SourceBase}
use Rattle.rh_rule_source.specs.declared.source.SourceBase.TheVariants.{Named, Num}
use Rattle.rh_rule_source.specs.declared.source.SourceOperand.{SourceOperand}
use Rattle.rh_rule_source.specs.declared.source.SourceOperand.TheVariants.{Wild, Plain as PlainOperand}
use Rattle.rh_rule_source.specs.declared.source.SourceParam.{SourceParam}
use Rattle.rh_rule_source.specs.declared.source.Relation.{Relation}
use Rattle.rh_rule_source.specs.declared.source.Relation.TheVariants.{Same, Differ}
use Rattle.rh_rule_source.specs.declared.source.SourceTerm.{SourceTerm}
use Rattle.rh_rule_source.specs.declared.source.SourceTerm.TheVariants.{Plain as PlainTerm, Address as AddressTerm, Deref, Compute as ComputedTerm}
use Rattle.rh_rule_source.specs.declared.source.SourceAtom.{SourceAtom}
use Rattle.rh_rule_source.specs.declared.source.SourceAtom.TheVariants.{IsNumber, IsPointer, Unaliased, Compare}
use Rattle.rh_rule_source.specs.declared.source.SourceFact.{SourceFact}
use Rattle.rh_rule_source.specs.declared.source.SourceRight.{SourceRight}
use Rattle.rh_rule_source.specs.declared.source.SourceRight.TheVariants.{Any, New, Address as AddressRight, Load, Call, Plain as PlainRight, Compute as ComputedRight}
use Rattle.rh_rule_source.specs.declared.source.SourceForm.{SourceForm}
use Rattle.rh_rule_source.specs.declared.source.SourceForm.TheVariants.{Skip, Write, If, Return, Assign}
use Rattle.rh_rule_source.specs.declared.source.SourcePattern.{SourcePattern}
use Rattle.rh_rule_source.specs.declared.source.SourcePattern.TheVariants.{Entry, Goto, Form}
use Rattle.rh_rule_source.specs.declared.source.SourceUse.{SourceUse}
use Rattle.rh_rule_source.specs.declared.source.SourceSide.{SourceSide}
use Rattle.rh_rule_source.specs.declared.source.SourceSide.TheVariants.{Plain as PlainSide, Compute as ComputedSide}
use Rattle.rh_rule_source.specs.declared.source.SourceCond.{SourceCond}
use Rattle.rh_rule_source.specs.declared.source.SourceCond.TheVariants.{Fact as FactCond, Side}
use Rattle.rh_rule_source.specs.declared.source.SourceConclusion.{SourceConclusion}
use Rattle.rh_rule_source.specs.declared.source.SourceConclusion.TheVariants.{Fact as FactConclusion, Transform}
use Rattle.rh_rule_source.specs.declared.source.SourceRule.{SourceRule}
use Rattle.rh_rule_source.specs.declared.source.SourceItem.{SourceItem}
use Rattle.rh_rule_source.specs.declared.source.SourceItem.TheVariants.{Fact as FactItem, Rule as RuleItem}

-- the number of a name: the place of the first name that is spelled like it
abbrev pub place_of : List (List ℕ) → Spelled → ℕ
place_of names s = min (unwrap_or (position (bytes_eq s.name) names) 0) (2 ^ 32 - 1)

-- the number of a sign and a size
abbrev pub number_of : Bool → ℕ → ℤ
number_of negative size = unwrap_or (signed negative (min size (2 ^ 63))) (pos 0)

abbrev pub meaning_base : List (List ℕ) → SourceBase → MeaningBase
meaning_base metas (Named name) = Param (place_of metas name)
meaning_base metas (Num negative size) = MeaningNum (number_of negative size)

abbrev pub rule_base : List (List ℕ) → SourceBase → RuleBase
rule_base metas (Named name) = Meta (place_of metas name)
rule_base metas (Num negative size) = RuleNum (number_of negative size)

abbrev pub rule_operand : List (List ℕ) → SourceOperand → RuleBase
rule_operand metas Wild = AnyBase
rule_operand metas (PlainOperand base) = rule_base metas base

abbrev pub meaning_term : List (List ℕ) → SourceTerm → MeaningTerm
meaning_term metas (PlainTerm base) = MeaningPlain (meaning_base metas base)
meaning_term metas (AddressTerm name) = MeaningAddress (place_of metas name)
meaning_term metas (Deref name) = MeaningDeref (place_of metas name)
meaning_term metas (ComputedTerm o) = MeaningCompute o.op (meaning_base metas o.left) (meaning_base metas o.right)

abbrev pub compared_atom : Relation → MeaningTerm → MeaningTerm → MeaningAtom
compared_atom Same left right = SameAtom left right
compared_atom Differ left right = DifferAtom left right

abbrev pub meaning_atom : List (List ℕ) → SourceAtom → MeaningAtom
meaning_atom metas (IsNumber term) = NumberAtom (meaning_term metas term)
meaning_atom metas (IsPointer term) = PointerAtom (meaning_term metas term)
meaning_atom metas (Unaliased name) = UnaliasedAtom (place_of metas name)
meaning_atom metas (Compare left relation right) = compared_atom relation (meaning_term metas left) (meaning_term metas right)

abbrev pub rule_param : SourceParam → RuleParam
rule_param p = record { name = p.name.name; kind = p.kind }

-- the names that parameters declare
abbrev pub metas_of : List SourceParam → List (List ℕ)
metas_of params = map (λ p. p.name.name) params

abbrev pub schema_of : SourceFact → Schema
schema_of f = record {
  name = f.name.name;
  params = map rule_param f.params;
  meaning = map (meaning_atom (metas_of f.params)) f.atoms;
}

-- an assignment, with what stands to the right of `:=`
abbrev pub assigned : List (List ℕ) → ℕ → SourceRight → RuleForm
assigned metas to Any = AnyAssignForm to
assigned metas to New = NewForm to
assigned metas to (AddressRight name) = AddressForm to (place_of metas name)
assigned metas to (Load name) = LoadForm to (place_of metas name)
assigned metas to (Call arg) = CallForm to (rule_operand metas arg)
assigned metas to (PlainRight base) = AssignForm to (rule_base metas base)
assigned metas to (ComputedRight o) = ComputeForm to o.op (rule_base metas o.left) (rule_base metas o.right)

abbrev pub rule_form : List (List ℕ) → SourceForm → RuleForm
rule_form metas Skip = SkipForm
rule_form metas (Write to from) = WriteForm (place_of metas to) (rule_operand metas from)
rule_form metas (If operand) = IfForm (rule_operand metas operand)
rule_form metas (Return operand) = ReturnForm (rule_operand metas operand)
rule_form metas (Assign to right) = assigned metas (place_of metas to) right

abbrev pub rule_pattern : List (List ℕ) → SourcePattern → RuleForm
rule_pattern metas (Entry name) = EntryForm (place_of metas name)
rule_pattern metas Goto = GotoForm
rule_pattern metas (Form form) = rule_form metas form

-- a fact, as premise or conclusion
abbrev pub fact_of : List (List ℕ) → List (List ℕ) → SourceUse → FactUse
fact_of facts metas u = record { schema = place_of facts u.name; args = map (rule_base metas) u.args }

abbrev pub side_term : List (List ℕ) → SourceSide → SideTerm
side_term metas (PlainSide base) = PlainTermOfSide (rule_base metas base)
side_term metas (ComputedSide o) = ComputeTermOfSide o.op (rule_base metas o.left) (rule_base metas o.right)

abbrev pub compared_side : Relation → SideTerm → SideTerm → RuleSide
compared_side Same left right = SameSide left right
compared_side Differ left right = DifferSide left right

-- the premise that a condition is, if it is one
abbrev pub premises_of : List (List ℕ) → List (List ℕ) → SourceCond → List FactUse
premises_of facts metas (FactCond u) = fact_of facts metas u ∷ []
premises_of facts metas (Side left relation right) = []

-- the side condition that a condition is, if it is one
abbrev pub sides_of : List (List ℕ) → SourceCond → List RuleSide
sides_of metas (FactCond u) = []
sides_of metas (Side left relation right) = compared_side relation (side_term metas left) (side_term metas right) ∷ []

abbrev pub conclusion_of : List (List ℕ) → List (List ℕ) → SourceConclusion → Conclusion
conclusion_of facts metas (FactConclusion u slot) = ConcludesFact (fact_of facts metas u) slot
conclusion_of facts metas (Transform form) = ConcludesForm (rule_form metas form)

abbrev pub rule_of : List (List ℕ) → SourceRule → Rule
rule_of facts r =
    let metas = metas_of r.params in
    record {
      name = r.name.name;
      params = map rule_param r.params;
      pattern = rule_pattern metas r.pattern;
      premises = flat_map (premises_of facts metas) r.conds;
      sides = flat_map (sides_of metas) r.conds;
      conclusion = conclusion_of facts metas r.conclusion;
    }

-- the name of a fact
abbrev pub fact_names : SourceItem → List (List ℕ)
fact_names (FactItem fact) = fact.name.name ∷ []
fact_names (RuleItem rule) = []

abbrev pub schemas_of : SourceItem → List Schema
schemas_of (FactItem fact) = schema_of fact ∷ []
schemas_of (RuleItem rule) = []

abbrev pub rules_of : List (List ℕ) → SourceItem → List Rule
rules_of facts (FactItem fact) = []
rules_of facts (RuleItem rule) = rule_of facts rule ∷ []

-- the schemas of a file
abbrev pub file_schemas : List SourceItem → List Schema
file_schemas items = flat_map schemas_of items

-- the rules of a file, whose facts may stand in front and after
abbrev pub file_rules : List SourceItem → List Rule
file_rules items = flat_map (rules_of (flat_map fact_names items)) items
