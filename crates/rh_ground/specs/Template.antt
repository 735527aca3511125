-- Templates of the class of a pattern.
use Rattle.std.specs.Prelude.{◌≡◌, List}
use Rattle.rh_rule.specs.declared.rule.Form.{Form}
use Rattle.rh_rule.specs.declared.rule.Form.TheVariants.{Skip, Assign, Address, Load, Compute, Write, Call, If, Return}
use Rattle.rh_rule.specs.declared.rule.RuleBase.{RuleBase}
use Rattle.rh_rule.specs.declared.rule.RuleBase.TheVariants.{Wild}
use Rattle.rh_rule.specs.declared.schema.Kind.TheVariants.{Var}
use Rattle.rh_rule.specs.declared.schema.Param.{Param}
use Rattle.rh_rule.specs.Params.{kind_of}

-- the operand is not `_`
abbrev pub IsTame : RuleBase → Type 0
IsTame Wild = ⊥
IsTame _ = Unit {0}

-- a form without `_` that sets at most one cell and goes on, with variables where it names variables
abbrev pub IsPlain : List Param → Form → Type 0
IsPlain params Skip = Unit {0}
IsPlain params (Assign to from) = (kind_of params to ≡ Var) × IsTame from
IsPlain params (Address to of) = (kind_of params to ≡ Var) × (kind_of params of ≡ Var)
IsPlain params (Load to from) = (kind_of params to ≡ Var) × (kind_of params from ≡ Var)
IsPlain params (Compute to op left right) = (kind_of params to ≡ Var) × IsTame left × IsTame right
IsPlain params (Write to from) = (kind_of params to ≡ Var) × IsTame from
IsPlain params _ = ⊥

-- the template is of the class of the pattern: plain, a call, a branch or a return
abbrev pub IsTemplateOf : List Param → Form → Form → Type 0
IsTemplateOf params (Call to arg) (Call to' arg') = (kind_of params to ≡ Var) × (kind_of params to' ≡ Var) × IsTame arg × IsTame arg'
IsTemplateOf params (If cond) (If cond') = IsTame cond × IsTame cond'
IsTemplateOf params (Return result) (Return result') = IsTame result × IsTame result'
IsTemplateOf params pattern template = IsPlain params pattern × IsPlain params template
