-- Where a statement leads to, which no template changes.
use Rattle.std.proofs.Common.{ℕ, ◌≡◌, ◌+◌, true, List, Option, Some, None, refl, ap, sym, ◌∙◌}
use Rattle.rh_il.specs.declared.program.Slot.{Slot}
use Rattle.rh_il.specs.declared.program.Slot.TheVariants.{Out, Then, Else}
use Rattle.rh_il.specs.declared.program.Stmt.{Stmt}
use Rattle.rh_il.specs.declared.program.Stmt.TheVariants.{Skip as ASkip, Copy as ACopy, Address as AnAddress, Load as ALoad, Compute as AComputation, Write as AWrite, New as ANew, Call as ACall, Goto as AGoto, If as AnIf, Return as AReturn}
use Rattle.rh_il.specs.Flow.{slot_target}
use Rattle.rh_rule.specs.declared.rule.Form.{Form}
use Rattle.rh_rule.specs.declared.rule.Form.TheVariants.{Entry, Goto, Skip, AnyAssign, Assign, Address, Load, Compute, Write, New, Call, If, Return}
use Rattle.rh_rule.specs.declared.schema.Param.{Param}
use Rattle.rh_domain.specs.Binding.{Binding}
use Rattle.rh_ground.specs.Match.{matches, template_under}
use Rattle.rh_ground.specs.Template.{IsPlain, IsTemplateOf}
use Rattle.rh_ground.proofs.Matched.{IsExact, matched}

-- how control leaves a statement
pub data Shape : Type 0 where
  Straight : Shape
  Calling : ℕ → Shape
  Jumping : ℕ → Shape
  Branching : ℕ → ℕ → Shape
  Returning : Shape

abbrev pub shape_of : Stmt → Shape
shape_of (ACall to callee arg) = Calling callee
shape_of (AGoto to) = Jumping to
shape_of (AnIf cond taken other) = Branching taken other
shape_of (AReturn value) = Returning
shape_of _ = Straight

-- the target of a slot, by the shape alone
abbrev pub shape_target : Shape → ℕ → Slot → Option ℕ
shape_target Straight number Out = Some (number + 1)
shape_target (Calling callee) number Out = Some (number + 1)
shape_target (Jumping to) number Out = Some to
shape_target (Branching taken other) number Then = Some taken
shape_target (Branching taken other) number Else = Some other
shape_target _ number slot = None

pub target_by_shape : (stmt : Stmt) (number : ℕ) (slot : Slot) → slot_target stmt number slot ≡ shape_target (shape_of stmt) number slot
target_by_shape ASkip number Out = refl
target_by_shape ASkip number Then = refl
target_by_shape ASkip number Else = refl
target_by_shape (ACopy to from) number Out = refl
target_by_shape (ACopy to from) number Then = refl
target_by_shape (ACopy to from) number Else = refl
target_by_shape (AnAddress to of) number Out = refl
target_by_shape (AnAddress to of) number Then = refl
target_by_shape (AnAddress to of) number Else = refl
target_by_shape (ALoad to from) number Out = refl
target_by_shape (ALoad to from) number Then = refl
target_by_shape (ALoad to from) number Else = refl
target_by_shape (AComputation to op left right) number Out = refl
target_by_shape (AComputation to op left right) number Then = refl
target_by_shape (AComputation to op left right) number Else = refl
target_by_shape (AWrite to from) number Out = refl
target_by_shape (AWrite to from) number Then = refl
target_by_shape (AWrite to from) number Else = refl
target_by_shape (ANew to) number Out = refl
target_by_shape (ANew to) number Then = refl
target_by_shape (ANew to) number Else = refl
target_by_shape (ACall to callee arg) number Out = refl
target_by_shape (ACall to callee arg) number Then = refl
target_by_shape (ACall to callee arg) number Else = refl
target_by_shape (AGoto to) number Out = refl
target_by_shape (AGoto to) number Then = refl
target_by_shape (AGoto to) number Else = refl
target_by_shape (AnIf cond taken other) number Out = refl
target_by_shape (AnIf cond taken other) number Then = refl
target_by_shape (AnIf cond taken other) number Else = refl
target_by_shape (AReturn value) number Out = refl
target_by_shape (AReturn value) number Then = refl
target_by_shape (AReturn value) number Else = refl

-- a plain form makes a straight statement
plain_shape : (params : List Param) (binding : Binding) (form : Form) (old : Stmt) → IsPlain params form → shape_of (template_under binding form old) ≡ Straight
plain_shape params binding Skip old plain = refl
plain_shape params binding (Assign to from) old plain = refl
plain_shape params binding (Address to of) old plain = refl
plain_shape params binding (Load to from) old plain = refl
plain_shape params binding (Compute to op left right) old plain = refl
plain_shape params binding (Write to from) old plain = refl
plain_shape params binding (Entry param) old plain = absurd plain
plain_shape params binding Goto old plain = absurd plain
plain_shape params binding (AnyAssign to) old plain = absurd plain
plain_shape params binding (New to) old plain = absurd plain
plain_shape params binding (Call to arg) old plain = absurd plain
plain_shape params binding (If cond) old plain = absurd plain
plain_shape params binding (Return value) old plain = absurd plain

plain_exact : (params : List Param) (form : Form) → IsPlain params form → IsExact form
plain_exact params Skip plain = tt
plain_exact params (Assign to from) plain = plain.1
plain_exact params (Address to of) plain = tt
plain_exact params (Load to from) plain = tt
plain_exact params (Compute to op left right) plain = (plain.1, plain.2)
plain_exact params (Write to from) plain = plain.1
plain_exact params (Entry param) plain = absurd plain
plain_exact params Goto plain = absurd plain
plain_exact params (AnyAssign to) plain = absurd plain
plain_exact params (New to) plain = absurd plain
plain_exact params (Call to arg) plain = absurd plain
plain_exact params (If cond) plain = absurd plain
plain_exact params (Return value) plain = absurd plain

both_plain : (params : List Param) (binding : Binding) (pattern template : Form) (stmt : Stmt) → IsPlain params pattern → IsPlain params template → matches binding pattern stmt ≡ true
    → shape_of (template_under binding template stmt) ≡ shape_of stmt
both_plain params binding pattern template stmt plain plain' m =
    let is : stmt ≡ template_under binding pattern stmt = matched binding pattern stmt (plain_exact params pattern plain) m in
    plain_shape params binding template stmt plain' ∙ sym (ap shape_of is ∙ plain_shape params binding pattern stmt plain)

-- the template of the class of a pattern has the shape of the statement that the pattern is
pub shape_kept : (params : List Param) (binding : Binding) (pattern template : Form) (stmt : Stmt) → IsTemplateOf params pattern template → matches binding pattern stmt ≡ true
    → shape_of (template_under binding template stmt) ≡ shape_of stmt
shape_kept params binding (Call to arg) (Call to' arg') stmt fit m = sym (ap shape_of (matched binding (Call to arg) stmt fit.2 m))
shape_kept params binding (If cond) (If cond') stmt fit m = sym (ap shape_of (matched binding (If cond) stmt fit.0 m))
shape_kept params binding (Return value) (Return value') stmt fit m = sym (ap shape_of (matched binding (Return value) stmt fit.0 m))
shape_kept params binding Skip template stmt fit m = both_plain params binding Skip template stmt fit.0 fit.1 m
shape_kept params binding (Assign to from) template stmt fit m = both_plain params binding (Assign to from) template stmt fit.0 fit.1 m
shape_kept params binding (Address to of) template stmt fit m = both_plain params binding (Address to of) template stmt fit.0 fit.1 m
shape_kept params binding (Load to from) template stmt fit m = both_plain params binding (Load to from) template stmt fit.0 fit.1 m
shape_kept params binding (Compute to op left right) template stmt fit m = both_plain params binding (Compute to op left right) template stmt fit.0 fit.1 m
shape_kept params binding (Write to from) template stmt fit m = both_plain params binding (Write to from) template stmt fit.0 fit.1 m
shape_kept params binding (Entry param) template stmt fit m = absurd fit.0
shape_kept params binding Goto template stmt fit m = absurd fit.0
shape_kept params binding (AnyAssign to) template stmt fit m = absurd fit.0
shape_kept params binding (New to) template stmt fit m = absurd fit.0
shape_kept params binding pattern template stmt fit m = absurd fit.0
