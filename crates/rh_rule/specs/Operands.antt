-- What the parts of a rule name.
use Rattle.std.specs.Prelude.{ℕ, Bool, true, false, ◌==◌, List, [], ◌∷◌}
use Rattle.rh_rule.specs.declared.rule.RuleBase.{RuleBase}
use Rattle.rh_rule.specs.declared.rule.RuleBase.TheVariants.{Meta, Num, Wild}
use Rattle.rh_rule.specs.declared.rule.Form.{Form}
use Rattle.rh_rule.specs.declared.rule.Form.TheVariants.{Entry, Goto, Skip, AnyAssign, Assign, Address, Load, Compute, Write, New, Call, If, Return}
use Rattle.rh_rule.specs.declared.rule.SideTerm.{SideTerm}
use Rattle.rh_rule.specs.declared.rule.SideTerm.TheVariants.{Plain, Compute as Computed}
use Rattle.rh_rule.specs.declared.rule.Side.{Side}
use Rattle.rh_rule.specs.declared.rule.Side.TheVariants.{Same, Differ}

-- the operands of a form, from left to right
abbrev pub operands : Form → List RuleBase
operands (Entry param) = Meta param ∷ []
operands Goto = []
operands Skip = []
operands (AnyAssign to) = Meta to ∷ Wild ∷ []
operands (Assign to from) = Meta to ∷ from ∷ []
operands (Address to of) = Meta to ∷ Meta of ∷ []
operands (Load to from) = Meta to ∷ Meta from ∷ []
operands (Compute to op left right) = Meta to ∷ left ∷ right ∷ []
operands (Write to from) = Meta to ∷ from ∷ []
operands (New to) = Meta to ∷ []
operands (Call to arg) = Meta to ∷ arg ∷ []
operands (If cond) = cond ∷ []
operands (Return value) = value ∷ []

abbrev pub term_operands : SideTerm → List RuleBase
term_operands (Plain base) = base ∷ []
term_operands (Computed op left right) = left ∷ right ∷ []

abbrev pub side_terms : Side → SideTerm × SideTerm
side_terms (Same s t) = (s, t)
side_terms (Differ s t) = (s, t)

-- the operand is `_`
abbrev pub is_wild : RuleBase → Bool
is_wild Wild = true
is_wild (Meta meta) = false
is_wild (Num number) = false

-- the operand is the metavariable
abbrev pub is_meta : ℕ → RuleBase → Bool
is_meta meta (Meta other) = other == meta
is_meta meta (Num number) = false
is_meta meta Wild = false
