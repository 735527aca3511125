-- Which statements a rule may speak of, and on which edges.
use Rattle.std.specs.Prelude.{Bool, true, false, not, ◌&&◌, ◌||◌, ◌==◌, List, length}
use Rattle.std.specs.List.{list_any, list_all}
use Rattle.rh_il.specs.declared.program.Slot.{Slot}
use Rattle.rh_il.specs.declared.program.Slot.TheVariants.{Out, Then, Else}
use Rattle.rh_rule.specs.declared.rule.RuleBase.{RuleBase}
use Rattle.rh_rule.specs.declared.rule.Form.{Form}
use Rattle.rh_rule.specs.declared.rule.Form.TheVariants.{Entry, Goto, Assign, Compute, New, Call, If, Return}
use Rattle.rh_rule.specs.declared.rule.FactUse.{FactUse}
use Rattle.rh_rule.specs.declared.rule.Conclusion.{Conclusion}
use Rattle.rh_rule.specs.declared.rule.Conclusion.TheVariants.{Fact, Transform}
use Rattle.rh_rule.specs.declared.rule.Rule.{Rule}
use Rattle.rh_rule.specs.declared.shapes.Class.{Class}
use Rattle.rh_rule.specs.declared.shapes.Class.TheVariants.{Plain, Calls, Branches, Returns}
use Rattle.rh_rule.specs.Operands.{operands, is_wild}

abbrev pub has_wild : List RuleBase → Bool
has_wild bases = list_any is_wild bases

-- no `_` is a right side by itself (`X := _` is a form of its own) or an operand of an operator
abbrev pub is_pattern : Form → Bool
is_pattern (Assign to from) = not (is_wild from)
is_pattern (Compute to op left right) = not (is_wild left) && not (is_wild right)
is_pattern form = true

-- a statement that is made or replaced: no entry, no `goto`, no `new`, and no `_` in it
abbrev pub is_statement : Form → Bool
is_statement (Entry param) = false
is_statement Goto = false
is_statement (New to) = false
is_statement form = not (has_wild (operands form))

-- the class of a statement: a template is of the same class as its pattern
abbrev pub class_of : Form → Class
class_of (Call to arg) = Calls
class_of (If cond) = Branches
class_of (Return value) = Returns
class_of form = Plain

abbrev pub class_eq : Class → Class → Bool
class_eq Plain Plain = true
class_eq Calls Calls = true
class_eq Branches Branches = true
class_eq Returns Returns = true
class_eq _ _ = false

abbrev pub may_replace : Form → Form → Bool
may_replace template pattern = is_statement pattern && (is_statement template && class_eq (class_of template) (class_of pattern))

-- no argument of a fact is `_`
abbrev pub fact_has_shape : FactUse → Bool
fact_has_shape fact = not (has_wild fact.args)

abbrev pub conclusion_has_shape : Form → Conclusion → Bool
conclusion_has_shape pattern (Fact fact slot) = fact_has_shape fact
conclusion_has_shape pattern (Transform template) = may_replace template pattern

-- the forms and the facts of a rule are such
abbrev pub has_shape : Rule → Bool
has_shape rule =
    is_pattern rule.pattern && (list_all fact_has_shape rule.premises && conclusion_has_shape rule.pattern rule.conclusion)

abbrev pub is_entry : Form → Bool
is_entry (Entry param) = true
is_entry form = false

-- an edge leaves a statement of this form by the slot
abbrev pub leaves_by : Form → Slot → Bool
leaves_by (If cond) Out = false
leaves_by (If cond) Then = true
leaves_by (If cond) Else = true
leaves_by (Return value) slot = false
leaves_by form Out = true
leaves_by form slot = false

abbrev pub conclusion_has_slot : Form → Conclusion → Bool
conclusion_has_slot pattern (Fact fact slot) = leaves_by pattern slot
conclusion_has_slot pattern (Transform template) = true

-- there are edges for the facts of a rule: none enters an entry, and what follows is on one that leaves the statement
abbrev pub has_slots : Rule → Bool
has_slots rule =
    (not (is_entry rule.pattern) || (length rule.premises == 0)) && conclusion_has_slot rule.pattern rule.conclusion
