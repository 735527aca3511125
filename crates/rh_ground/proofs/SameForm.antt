-- A pattern is of the form of each statement that it is under a binding.
use Rattle.std.proofs.Common.{ℕ, ◌≡◌, true, refl}
use Rattle.std.proofs.lemmas.Bool.{and_from, and_parts}
use Rattle.rh_il.specs.declared.program.Base.{Base}
use Rattle.rh_il.specs.declared.program.Stmt.{Stmt}
use Rattle.rh_il.specs.declared.program.Stmt.TheVariants.{Skip as ASkip, Copy as ACopy, Address as AnAddress, Load as ALoad, Compute as AComputation, Write as AWrite, New as ANew, Call as ACall, Goto as AGoto, If as AnIf, Return as AReturn}
use Rattle.rh_rule.specs.declared.rule.Form.{Form}
use Rattle.rh_rule.specs.declared.rule.Form.TheVariants.{Goto, Skip, AnyAssign, Assign, Address, Load, Compute, Write, New, Call, If, Return}
use Rattle.rh_rule.specs.declared.rule.RuleBase.{RuleBase}
use Rattle.rh_rule.specs.declared.rule.RuleBase.TheVariants.{Meta, Num, Wild}
use Rattle.rh_domain.specs.Binding.{Binding}
use Rattle.rh_ground.specs.Forms.{is_assignment, is_form_of, may_be}
use Rattle.rh_ground.specs.Match.{assigns, is_operand, matches}

operand_may_be : (binding : Binding) (operand : RuleBase) (base : Base) → is_operand binding operand base ≡ true → may_be operand base ≡ true
operand_may_be binding Wild base is = refl
operand_may_be binding (Meta meta) base is = refl
operand_may_be binding (Num number) base is = is

set_by_assignment : (binding : Binding) (stmt : Stmt) (to : ℕ) → assigns binding to stmt ≡ true → is_assignment stmt ≡ true
set_by_assignment binding (ACopy x from) to is = refl
set_by_assignment binding (AnAddress x of) to is = refl
set_by_assignment binding (ALoad x from) to is = refl
set_by_assignment binding (AComputation x op left right) to is = refl
set_by_assignment binding (ANew x) to is = refl
set_by_assignment binding _ to is = cc

pub matched_form : (binding : Binding) (pattern : Form) (stmt : Stmt) → matches binding pattern stmt ≡ true → is_form_of pattern stmt ≡ true
matched_form binding Skip ASkip is = refl
matched_form binding Goto (AGoto target) is = refl
matched_form binding (AnyAssign to) stmt is = set_by_assignment binding stmt to is
matched_form binding (Assign to from) (ACopy variable base) is = operand_may_be binding from base (and_parts _ _ is).1
matched_form binding (Address to of) (AnAddress variable other) is = refl
matched_form binding (Load to from) (ALoad variable other) is = refl
matched_form binding (Compute to op left right) (AComputation variable sign a b) is =
    let parts = and_parts _ _ (and_parts _ _ is).1 in
    let operands = and_parts _ _ parts.1 in
    and_from _ _ parts.0 (and_from _ _ (operand_may_be binding left a operands.0) (operand_may_be binding right b operands.1))
matched_form binding (Write to from) (AWrite variable base) is = operand_may_be binding from base (and_parts _ _ is).1
matched_form binding (New to) (ANew variable) is = refl
matched_form binding (Call to arg) (ACall variable callee base) is = operand_may_be binding arg base (and_parts _ _ is).1
matched_form binding (If cond) (AnIf base taken other) is = operand_may_be binding cond base is
matched_form binding (Return value) (AReturn base) is = operand_may_be binding value base is
matched_form binding _ _ is = cc
