-- Which statements a pattern is under a binding, and which statement a template is.
use Rattle.std.specs.Prelude.{ℕ, Bool, true, false, ◌==◌, ◌&&◌}
use Rattle.std.specs.Ordering.{int_eq}
use Rattle.rh_il.specs.declared.program.Base.{Base}
use Rattle.rh_il.specs.declared.program.Base.TheVariants.{Var as AVariable, Num as ALiteral}
use Rattle.rh_il.specs.declared.program.Stmt.{Stmt}
use Rattle.rh_il.specs.declared.program.Stmt.TheVariants.{Skip as ASkip, Copy as ACopy, Address as AnAddress, Load as ALoad, Compute as AComputation, Write as AWrite, New as ANew, Call as ACall, Goto as AGoto, If as AnIf, Return as AReturn}
use Rattle.rh_il.specs.Op.{op_eq}
use Rattle.rh_rule.specs.declared.rule.Arg.TheVariants.{Var}
use Rattle.rh_rule.specs.declared.rule.Form.{Form}
use Rattle.rh_rule.specs.declared.rule.Form.TheVariants.{Goto, Skip, AnyAssign, Assign, Address, Load, Compute, Write, New, Call, If, Return}
use Rattle.rh_rule.specs.declared.rule.RuleBase.{RuleBase}
use Rattle.rh_rule.specs.declared.rule.RuleBase.TheVariants.{Meta, Num, Wild}
use Rattle.rh_domain.specs.Binding.{Binding, arg_eq, bound, base_under, variable_under}

abbrev pub base_eq : Base → Base → Bool
base_eq (AVariable a) (AVariable b) = a == b
base_eq (ALiteral a) (ALiteral b) = int_eq a b
base_eq (AVariable a) (ALiteral b) = false
base_eq (ALiteral a) (AVariable b) = false

-- the metavariable is bound to the variable
abbrev pub is_variable : Binding → ℕ → ℕ → Bool
is_variable binding meta variable = arg_eq (bound binding meta) (Var variable)

-- `_` is any operand, and any other operand of a rule is the one that it stands for
abbrev pub is_operand : Binding → RuleBase → Base → Bool
is_operand binding Wild base = true
is_operand binding (Meta meta) base = base_eq (base_under binding (Meta meta)) base
is_operand binding (Num number) base = base_eq (ALiteral number) base

-- the variable that an assignment other than a call sets is the one that the metavariable is bound to
abbrev pub assigns : Binding → ℕ → Stmt → Bool
assigns binding meta (ACopy to from) = is_variable binding meta to
assigns binding meta (AnAddress to of) = is_variable binding meta to
assigns binding meta (ALoad to from) = is_variable binding meta to
assigns binding meta (AComputation to op left right) = is_variable binding meta to
assigns binding meta (ANew to) = is_variable binding meta to
assigns binding meta _ = false

-- the pattern is the statement under the binding
abbrev pub matches : Binding → Form → Stmt → Bool
matches binding Skip ASkip = true
matches binding Goto (AGoto target) = true
matches binding (AnyAssign to) stmt = assigns binding to stmt
matches binding (Assign to from) (ACopy variable base) = is_variable binding to variable && is_operand binding from base
matches binding (Address to of) (AnAddress variable other) = is_variable binding to variable && is_variable binding of other
matches binding (Load to from) (ALoad variable other) = is_variable binding to variable && is_variable binding from other
matches binding (Compute to op left right) (AComputation variable sign a b) =
    is_variable binding to variable && (op_eq op sign && (is_operand binding left a && is_operand binding right b))
matches binding (Write to from) (AWrite variable base) = is_variable binding to variable && is_operand binding from base
matches binding (New to) (ANew variable) = is_variable binding to variable
matches binding (Call to arg) (ACall variable callee base) = is_variable binding to variable && is_operand binding arg base
matches binding (If cond) (AnIf base taken other) = is_operand binding cond base
matches binding (Return value) (AReturn base) = is_operand binding value base
matches binding _ _ = false

-- the procedure that a statement calls, and where a branch leads, which a template leaves as they are
abbrev pub callee_of : Stmt → ℕ
callee_of (ACall variable callee base) = callee
callee_of _ = 0

abbrev pub taken_of : Stmt → ℕ
taken_of (AnIf base taken other) = taken
taken_of _ = 0

abbrev pub other_of : Stmt → ℕ
other_of (AnIf base taken other) = other
other_of _ = 0

-- the statement that a template is under a binding, in place of an old statement
abbrev pub template_under : Binding → Form → Stmt → Stmt
template_under binding Skip old = ASkip
template_under binding (Assign to from) old = ACopy (variable_under binding to) (base_under binding from)
template_under binding (Address to of) old = AnAddress (variable_under binding to) (variable_under binding of)
template_under binding (Load to from) old = ALoad (variable_under binding to) (variable_under binding from)
template_under binding (Compute to op left right) old =
    AComputation (variable_under binding to) op (base_under binding left) (base_under binding right)
template_under binding (Write to from) old = AWrite (variable_under binding to) (base_under binding from)
template_under binding (Call to arg) old = ACall (variable_under binding to) (callee_of old) (base_under binding arg)
template_under binding (If cond) old = AnIf (base_under binding cond) (taken_of old) (other_of old)
template_under binding (Return value) old = AReturn (base_under binding value)
template_under binding _ old = old
