-- A statement that a pattern matches is the pattern under the binding.
use Rattle.std.proofs.Common.{ℕ, ◌≡◌, true, refl, ap, sym}
use Rattle.std.proofs.lemmas.Bool.{and_parts, eqb-true}
use Rattle.std.proofs.lemmas.Bool.Decides.{Decides-int_eq}
use Rattle.rh_il.specs.declared.program.Base.{Base}
use Rattle.rh_il.specs.declared.program.Base.TheVariants.{Var as AVariable, Num as ALiteral}
use Rattle.rh_il.specs.declared.program.Stmt.{Stmt}
use Rattle.rh_il.specs.declared.program.Stmt.TheVariants.{Skip as ASkip, Copy as ACopy, Address as AnAddress, Load as ALoad, Compute as AComputation, Write as AWrite, Call as ACall, If as AnIf, Return as AReturn}
use Rattle.rh_il.proofs.Operators.{op_eq-true}
use Rattle.rh_rule.specs.declared.rule.Arg.{Arg}
use Rattle.rh_rule.specs.declared.rule.Arg.TheVariants.{Var, Const}
use Rattle.rh_rule.specs.declared.rule.Form.{Form}
use Rattle.rh_rule.specs.declared.rule.Form.TheVariants.{Entry, Goto, Skip, AnyAssign, Assign, Address, Load, Compute, Write, New, Call, If, Return}
use Rattle.rh_rule.specs.declared.rule.RuleBase.{RuleBase}
use Rattle.rh_rule.specs.declared.rule.RuleBase.TheVariants.{Meta, Num, Wild}
use Rattle.rh_domain.specs.Binding.{Binding, arg_eq, bound, as_variable, base_under, variable_under}
use Rattle.rh_ground.specs.Match.{base_eq, is_variable, is_operand, matches, template_under}
use Rattle.rh_ground.specs.Template.{IsTame}

base_eq-true : (a b : Base) → base_eq a b ≡ true → a ≡ b
base_eq-true (AVariable a) (AVariable b) e = ap AVariable (eqb-true a b e)
base_eq-true (ALiteral a) (ALiteral b) e = ap ALiteral ((Decides-int_eq a b).0 e)
base_eq-true (AVariable a) (ALiteral b) e = cc
base_eq-true (ALiteral a) (AVariable b) e = cc

variable_is : (arg : Arg) (variable : ℕ) → arg_eq arg (Var variable) ≡ true → variable ≡ as_variable arg
variable_is (Var number) variable e = sym (eqb-true number variable e)
variable_is (Const number) variable e = cc

-- the variable that the metavariable is bound to
pub matched_variable : (binding : Binding) (meta variable : ℕ) → is_variable binding meta variable ≡ true → variable ≡ variable_under binding meta
matched_variable binding meta variable e = variable_is (bound binding meta) variable e

-- the operand that the rule's operand stands for
pub matched_operand : (binding : Binding) (b : RuleBase) (base : Base) → IsTame b → is_operand binding b base ≡ true → base ≡ base_under binding b
matched_operand binding (Meta meta) base tame e = sym (base_eq-true _ base e)
matched_operand binding (Num number) base tame e = sym (base_eq-true _ base e)
matched_operand binding Wild base tame e = absurd tame

-- the operands of a form are not `_`
abbrev pub IsExact : Form → Type 0
IsExact (AnyAssign to) = ⊥
IsExact (Entry param) = ⊥
IsExact Goto = ⊥
IsExact (New to) = ⊥
IsExact (Assign to from) = IsTame from
IsExact (Compute to op left right) = IsTame left × IsTame right
IsExact (Write to from) = IsTame from
IsExact (Call to arg) = IsTame arg
IsExact (If cond) = IsTame cond
IsExact (Return result) = IsTame result
IsExact _ = Unit {0}

pub matched : (binding : Binding) (pattern : Form) (stmt : Stmt) → IsExact pattern → matches binding pattern stmt ≡ true → stmt ≡ template_under binding pattern stmt
matched binding Skip ASkip exact e = refl
matched binding (Assign to from) (ACopy variable base) exact e =
    let parts = and_parts _ _ e in
    let v = matched_variable binding to variable parts.0 in
    let b = matched_operand binding from base exact parts.1 in
    cc
matched binding (Address to of) (AnAddress variable other) exact e =
    let parts = and_parts _ _ e in
    let v = matched_variable binding to variable parts.0 in
    let w = matched_variable binding of other parts.1 in
    cc
matched binding (Load to from) (ALoad variable other) exact e =
    let parts = and_parts _ _ e in
    let v = matched_variable binding to variable parts.0 in
    let w = matched_variable binding from other parts.1 in
    cc
matched binding (Compute to op left right) (AComputation variable sign a b) exact e =
    let parts = and_parts _ _ e in
    let more = and_parts _ _ parts.1 in
    let most = and_parts _ _ more.1 in
    let v = matched_variable binding to variable parts.0 in
    let o = op_eq-true op sign more.0 in
    let x = matched_operand binding left a exact.0 most.0 in
    let y = matched_operand binding right b exact.1 most.1 in
    cc
matched binding (Write to from) (AWrite variable base) exact e =
    let parts = and_parts _ _ e in
    let v = matched_variable binding to variable parts.0 in
    let b = matched_operand binding from base exact parts.1 in
    cc
matched binding (Call to arg) (ACall variable callee base) exact e =
    let parts = and_parts _ _ e in
    let v = matched_variable binding to variable parts.0 in
    let b = matched_operand binding arg base exact parts.1 in
    cc
matched binding (If cond) (AnIf base taken other) exact e = let b = matched_operand binding cond base exact e in cc
matched binding (Return result) (AReturn base) exact e = let b = matched_operand binding result base exact e in cc
matched binding (AnyAssign to) stmt exact e = absurd exact
matched binding (Entry param) stmt exact e = absurd exact
matched binding Goto stmt exact e = absurd exact
matched binding (New to) stmt exact e = absurd exact
matched binding pattern stmt exact e = cc
