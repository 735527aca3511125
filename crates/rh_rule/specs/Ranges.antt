-- The numbers of schemas and rules are those of 64 bits.
use Rattle.std.specs.Prelude.{◌<◌, ◌^◌, ℤ, List}
use Rattle.std.specs.Int.Signed.{mag}
use Rattle.std.specs.List.{AllByRecursion}
use Rattle.rh_rule.specs.declared.schema.MeaningBase.{MeaningBase}
use Rattle.rh_rule.specs.declared.schema.MeaningBase.TheVariants.{Param as AParam, Num as ANumber}
use Rattle.rh_rule.specs.declared.schema.MeaningTerm.{MeaningTerm}
use Rattle.rh_rule.specs.declared.schema.MeaningTerm.TheVariants.{Plain as MeaningPlain, Address as MeaningAddress, Deref as MeaningDeref, Compute as MeaningCompute}
use Rattle.rh_rule.specs.declared.schema.MeaningAtom.{MeaningAtom}
use Rattle.rh_rule.specs.declared.schema.MeaningAtom.TheVariants.{Same as SameAtom, Differ as DifferAtom, IsNumber as NumberAtom, IsPointer as PointerAtom, Unaliased as UnaliasedAtom}
use Rattle.rh_rule.specs.declared.schema.Schema.{Schema}
use Rattle.rh_rule.specs.declared.rule.RuleBase.{RuleBase}
use Rattle.rh_rule.specs.declared.rule.RuleBase.TheVariants.{Meta, Num as RuleNum, Wild as AnyBase}
use Rattle.rh_rule.specs.declared.rule.FactUse.{FactUse}
use Rattle.rh_rule.specs.declared.rule.Side.{Side}
use Rattle.rh_rule.specs.declared.rule.Conclusion.{Conclusion}
use Rattle.rh_rule.specs.declared.rule.Conclusion.TheVariants.{Fact as ConcludesFact, Transform as ConcludesForm}
use Rattle.rh_rule.specs.declared.rule.Rule.{Rule}
use Rattle.rh_rule.specs.Operands.{operands, term_operands, side_terms}

-- an i64
abbrev pub FitsI64 : ℤ → Type 0
FitsI64 number = mag number < 2 ^ 63

abbrev pub MeaningNumberFits : MeaningBase → Type 0
MeaningNumberFits (AParam param) = Unit {0}
MeaningNumberFits (ANumber number) = FitsI64 number

abbrev pub TermNumbersFit : MeaningTerm → Type 0
TermNumbersFit (MeaningPlain base) = MeaningNumberFits base
TermNumbersFit (MeaningAddress param) = Unit {0}
TermNumbersFit (MeaningDeref param) = Unit {0}
TermNumbersFit (MeaningCompute op left right) = MeaningNumberFits left × MeaningNumberFits right

abbrev pub AtomNumbersFit : MeaningAtom → Type 0
AtomNumbersFit (SameAtom s t) = TermNumbersFit s × TermNumbersFit t
AtomNumbersFit (DifferAtom s t) = TermNumbersFit s × TermNumbersFit t
AtomNumbersFit (NumberAtom t) = TermNumbersFit t
AtomNumbersFit (PointerAtom t) = TermNumbersFit t
AtomNumbersFit (UnaliasedAtom param) = Unit {0}

abbrev pub SchemaNumbersFit : Schema → Type 0
SchemaNumbersFit schema = AllByRecursion AtomNumbersFit schema.meaning

abbrev pub NumberFits : RuleBase → Type 0
NumberFits (Meta meta) = Unit {0}
NumberFits (RuleNum number) = FitsI64 number
NumberFits AnyBase = Unit {0}

abbrev pub NumbersFit : List RuleBase → Type 0
NumbersFit bases = AllByRecursion NumberFits bases

abbrev pub UseNumbersFit : FactUse → Type 0
UseNumbersFit fact = NumbersFit fact.args

abbrev pub SideNumbersFit : Side → Type 0
SideNumbersFit side = NumbersFit (term_operands (side_terms side).0) × NumbersFit (term_operands (side_terms side).1)

abbrev pub ConclusionNumbersFit : Conclusion → Type 0
ConclusionNumbersFit (ConcludesFact fact slot) = UseNumbersFit fact
ConclusionNumbersFit (ConcludesForm form) = NumbersFit (operands form)

pub record RuleNumbersFit (rule : Rule) : Type 0 where
  pub pattern : NumbersFit (operands rule.pattern)
  pub premises : AllByRecursion UseNumbersFit rule.premises
  pub sides : AllByRecursion SideNumbersFit rule.sides
  pub conclusion : ConclusionNumbersFit rule.conclusion
