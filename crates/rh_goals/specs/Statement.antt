-- What a statement of a form needs to step, and what it makes of the store.
use Rattle.std.specs.Prelude.{ℕ, List, [], ◌∷◌}
use Rattle.rh_il.specs.declared.value.Op.{Op}
use Rattle.rh_il.specs.declared.value.Op.TheVariants.{Equal}
use Rattle.rh_rule.specs.declared.rule.Form.{Form}
use Rattle.rh_rule.specs.declared.rule.Form.TheVariants.{Entry, AnyAssign, Assign, Address, Load, Compute as AComputation, Write, New, Call, If}
use Rattle.rh_rule.specs.declared.rule.RuleBase.{RuleBase}
use Rattle.rh_rule.specs.declared.schema.Param.{Param}
use Rattle.rh_term.specs.declared.term.Term.TheVariants.{Addr, Any, Fresh, Answer, Before, After, Start}
use Rattle.rh_meaning.specs.Tree.{Tree, Leaf, Select, Update, Compute}
use Rattle.rh_meaning.specs.Literal.{TreeLit, number_tree, pointer_tree, operand}

-- the store before the step
abbrev pub before : Tree
before = Leaf Before

abbrev pub address : ℕ → Tree
address meta = Leaf (Addr meta)

-- the value of a variable before the step
abbrev pub variable : ℕ → Tree
variable meta = Select before (address meta)

-- an operand before the step
abbrev pub value : List Param → RuleBase → Tree
value params base = operand params before base

-- what the operator needs of its operands: numbers, but for `==`
abbrev pub operator_literals : Op → Tree → Tree → List TreeLit
operator_literals Equal left right = []
operator_literals op left right = number_tree left ∷ number_tree right ∷ []

-- what has to hold for the statement to step
abbrev pub step_literals : List Param → Form → List TreeLit
step_literals params (Load to from) = pointer_tree (variable from) ∷ []
step_literals params (AComputation to op left right) = operator_literals op (value params left) (value params right)
step_literals params (Write to from) = pointer_tree (variable to) ∷ []
step_literals params (If cond) = number_tree (value params cond) ∷ []
step_literals params _ = []

-- the store after the step
abbrev pub store_after : List Param → Form → Tree
store_after params (Assign to from) = Update before (address to) (value params from)
store_after params (AnyAssign to) = Update before (address to) (Leaf Any)
store_after params (Address to of) = Update before (address to) (address of)
store_after params (Load to from) = Update before (address to) (Select before (variable from))
store_after params (AComputation to op left right) = Update before (address to) (Compute op (value params left) (value params right))
store_after params (Write to from) = Update before (variable to) (value params from)
store_after params (New to) = Update before (address to) (Leaf Fresh)
store_after params (Call to arg) = Update (Leaf After) (address to) (Leaf Answer)
store_after params (Entry param) = Leaf Start
store_after params _ = before
