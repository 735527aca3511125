-- Which statements a pattern is under some binding, as far as its form and its numbers tell.
use Rattle.std.specs.Prelude.{Bool, true, false, ◌&&◌, slice_get}
use Rattle.std.specs.Option.{option_map_or}
use Rattle.rh_il.specs.declared.program.Base.{Base}
use Rattle.rh_il.specs.declared.program.Base.TheVariants.{Num as ALiteral}
use Rattle.rh_il.specs.declared.program.Node.{Node}
use Rattle.rh_il.specs.declared.program.Node.TheVariants.{Entry as AtEntry, At}
use Rattle.rh_il.specs.declared.program.Proc.{Proc}
use Rattle.rh_il.specs.declared.program.Stmt.{Stmt}
use Rattle.rh_il.specs.declared.program.Stmt.TheVariants.{Skip as ASkip, Copy as ACopy, Address as AnAddress, Load as ALoad, Compute as AComputation, Write as AWrite, New as ANew, Call as ACall, Goto as AGoto, If as AnIf, Return as AReturn}
use Rattle.rh_il.specs.Op.{op_eq}
use Rattle.rh_rule.specs.declared.rule.Form.{Form}
use Rattle.rh_rule.specs.declared.rule.Form.TheVariants.{Entry, Goto, Skip, AnyAssign, Assign, Address, Load, Compute, Write, New, Call, If, Return}
use Rattle.rh_rule.specs.declared.rule.RuleBase.{RuleBase}
use Rattle.rh_rule.specs.declared.rule.RuleBase.TheVariants.{Meta, Num, Wild}
use Rattle.rh_ground.specs.Match.{base_eq}

-- the operand of a rule is no other number than that of a statement
abbrev pub may_be : RuleBase → Base → Bool
may_be Wild base = true
may_be (Meta meta) base = true
may_be (Num number) base = base_eq (ALiteral number) base

-- the statement is an assignment other than a call
abbrev pub is_assignment : Stmt → Bool
is_assignment (ACopy to from) = true
is_assignment (AnAddress to of) = true
is_assignment (ALoad to from) = true
is_assignment (AComputation to op left right) = true
is_assignment (ANew to) = true
is_assignment _ = false

-- the pattern is of the form of the statement, with its numbers and its operator
abbrev pub is_form_of : Form → Stmt → Bool
is_form_of Skip ASkip = true
is_form_of Goto (AGoto target) = true
is_form_of (AnyAssign to) stmt = is_assignment stmt
is_form_of (Assign to from) (ACopy variable base) = may_be from base
is_form_of (Address to of) (AnAddress variable other) = true
is_form_of (Load to from) (ALoad variable other) = true
is_form_of (Compute to op left right) (AComputation variable sign a b) = op_eq op sign && (may_be left a && may_be right b)
is_form_of (Write to from) (AWrite variable base) = may_be from base
is_form_of (New to) (ANew variable) = true
is_form_of (Call to arg) (ACall variable callee base) = may_be arg base
is_form_of (If cond) (AnIf base taken other) = may_be cond base
is_form_of (Return value) (AReturn base) = may_be value base
is_form_of _ _ = false

-- the pattern is of an entry
abbrev pub is_entry : Form → Bool
is_entry (Entry param) = true
is_entry _ = false

-- the pattern is of the form of what stands at the node
abbrev pub may_match : Proc → Form → Node → Bool
may_match proc pattern AtEntry = is_entry pattern
may_match proc pattern (At number) = option_map_or (is_form_of pattern) (slice_get proc.body number) false
