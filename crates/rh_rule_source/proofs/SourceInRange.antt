-- The sources whose words a rule file may have: their numbers are small enough, and no list is empty
-- in which the grammar wants a first part.
use Rattle.std.specs.Prelude.{ℕ, ◌<◌, ◌≤◌, ◌^◌, Bool, true, false, List, [], ◌∷◌}
use Rattle.std.specs.List.{AllByRecursion}
use Rattle.rh_rule_source.specs.declared.source.SourceBase.{SourceBase}
use Rattle.rh_rule_source.specs.declared.source.SourceBase.TheVariants.{Named, Num}
use Rattle.rh_rule_source.specs.declared.source.SourceOperand.{SourceOperand}
use Rattle.rh_rule_source.specs.declared.source.SourceOperand.TheVariants.{Wild, Plain as PlainOperand}
use Rattle.rh_rule_source.specs.declared.source.SourceOperation.{SourceOperation}
use Rattle.rh_rule_source.specs.declared.source.SourceTerm.{SourceTerm}
use Rattle.rh_rule_source.specs.declared.source.SourceTerm.TheVariants.{Plain as PlainTerm, Address as AddressTerm, Deref, Compute as ComputedTerm}
use Rattle.rh_rule_source.specs.declared.source.SourceAtom.{SourceAtom}
use Rattle.rh_rule_source.specs.declared.source.SourceAtom.TheVariants.{IsNumber, IsPointer, Unaliased, Compare}
use Rattle.rh_rule_source.specs.declared.source.SourceFact.{SourceFact}
use Rattle.rh_rule_source.specs.declared.source.SourceRight.{SourceRight}
use Rattle.rh_rule_source.specs.declared.source.SourceRight.TheVariants.{Any, New, Address as AddressRight, Load, Call, Plain as PlainRight, Compute as ComputedRight}
use Rattle.rh_rule_source.specs.declared.source.SourceForm.{SourceForm}
use Rattle.rh_rule_source.specs.declared.source.SourceForm.TheVariants.{Skip, Write, If, Return, Assign}
use Rattle.rh_rule_source.specs.declared.source.SourcePattern.{SourcePattern}
use Rattle.rh_rule_source.specs.declared.source.SourcePattern.TheVariants.{Entry, Goto, Form}
use Rattle.rh_rule_source.specs.declared.source.SourceUse.{SourceUse}
use Rattle.rh_rule_source.specs.declared.source.SourceSide.{SourceSide}
use Rattle.rh_rule_source.specs.declared.source.SourceSide.TheVariants.{Plain as PlainSide, Compute as ComputedSide}
use Rattle.rh_rule_source.specs.declared.source.SourceCond.{SourceCond}
use Rattle.rh_rule_source.specs.declared.source.SourceCond.TheVariants.{Fact as FactCond, Side}
use Rattle.rh_rule_source.specs.declared.source.SourceConclusion.{SourceConclusion}
use Rattle.rh_rule_source.specs.declared.source.SourceConclusion.TheVariants.{Fact as FactConclusion, Transform}
use Rattle.rh_rule_source.specs.declared.source.SourceRule.{SourceRule}
use Rattle.rh_rule_source.specs.declared.source.SourceItem.{SourceItem}
use Rattle.rh_rule_source.specs.declared.source.SourceItem.TheVariants.{Fact as FactItem, Rule as RuleItem}
use Rattle.rh_rule_source.specs.declared.source.SourceFile.{SourceFile}

-- a number, with `-` before it or not
abbrev pub NumberInRange : Bool → ℕ → Type 0
NumberInRange true size = size ≤ 2 ^ 63
NumberInRange false size = size < 2 ^ 63

abbrev pub BaseInRange : SourceBase → Type 0
BaseInRange (Named name) = Unit {0}
BaseInRange (Num negative size) = NumberInRange negative size

abbrev pub OperandInRange : SourceOperand → Type 0
OperandInRange Wild = Unit {0}
OperandInRange (PlainOperand base) = BaseInRange base

abbrev pub OperationInRange : SourceOperation → Type 0
OperationInRange o = BaseInRange o.left × BaseInRange o.right

abbrev pub TermInRange : SourceTerm → Type 0
TermInRange (PlainTerm base) = BaseInRange base
TermInRange (AddressTerm name) = Unit {0}
TermInRange (Deref name) = Unit {0}
TermInRange (ComputedTerm operation) = OperationInRange operation

abbrev pub AtomInRange : SourceAtom → Type 0
AtomInRange (IsNumber term) = TermInRange term
AtomInRange (IsPointer term) = TermInRange term
AtomInRange (Unaliased name) = Unit {0}
AtomInRange (Compare left relation right) = TermInRange left × TermInRange right

-- a list with a first item
abbrev pub IsFilled : {T : Type 0} → List T → Type 0
IsFilled [] = ⊥
IsFilled (x ∷ xs) = Unit {0}

pub record FactInRange (f : SourceFact) : Type 0 where
  pub some_params : IsFilled f.params
  pub some_atoms : IsFilled f.atoms
  pub atoms : AllByRecursion AtomInRange f.atoms

abbrev pub RightInRange : SourceRight → Type 0
RightInRange Any = Unit {0}
RightInRange New = Unit {0}
RightInRange (AddressRight name) = Unit {0}
RightInRange (Load name) = Unit {0}
RightInRange (Call arg) = OperandInRange arg
RightInRange (PlainRight base) = BaseInRange base
RightInRange (ComputedRight operation) = OperationInRange operation

abbrev pub FormInRange : SourceForm → Type 0
FormInRange Skip = Unit {0}
FormInRange (Write to from) = OperandInRange from
FormInRange (If operand) = OperandInRange operand
FormInRange (Return operand) = OperandInRange operand
FormInRange (Assign to right) = RightInRange right

abbrev pub PatternInRange : SourcePattern → Type 0
PatternInRange (Entry name) = Unit {0}
PatternInRange Goto = Unit {0}
PatternInRange (Form form) = FormInRange form

pub record UseInRange (u : SourceUse) : Type 0 where
  pub some_args : IsFilled u.args
  pub args : AllByRecursion BaseInRange u.args

abbrev pub SideInRange : SourceSide → Type 0
SideInRange (PlainSide base) = BaseInRange base
SideInRange (ComputedSide operation) = OperationInRange operation

abbrev pub CondInRange : SourceCond → Type 0
CondInRange (FactCond u) = UseInRange u
CondInRange (Side left relation right) = SideInRange left × SideInRange right

abbrev pub ConclusionInRange : SourceConclusion → Type 0
ConclusionInRange (FactConclusion u slot) = UseInRange u
ConclusionInRange (Transform form) = FormInRange form

pub record RuleInRange (r : SourceRule) : Type 0 where
  pub pattern : PatternInRange r.pattern
  pub conds : AllByRecursion CondInRange r.conds
  pub conclusion : ConclusionInRange r.conclusion

abbrev pub ItemInRange : SourceItem → Type 0
ItemInRange (FactItem fact) = FactInRange fact
ItemInRange (RuleItem rule) = RuleInRange rule

abbrev pub InRange : SourceFile → Type 0
InRange f = AllByRecursion ItemInRange f.items
