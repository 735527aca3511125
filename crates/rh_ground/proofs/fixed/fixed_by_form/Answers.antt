use Rattle.std.proofs.Common.{◌≡◌, Bool, true, false, ◌&&◌, subst}
use Rattle.std.proofs.lemmas.Option.{IfSome_then}
use Rattle.rh_il.specs.declared.program.Stmt.{Stmt}
use Rattle.rh_il.specs.Op.{op_eq}
use Rattle.rh_rule.specs.declared.rule.Form.{Form}
use Rattle.rh_rule.specs.declared.rule.Form.TheVariants.{Compute}
use Rattle.rh_ground.specs.Match.{is_operand, is_variable, matches}
use Rattle.rh_ground.proofs.fixed.fixed_by_form.Goals as goal

-- whatever the operators are
but_operators : (a same b : Bool) → (a && (same && b)) ≡ true → (a && b) ≡ true
but_operators true true b passes = passes
but_operators true false b passes = cc
but_operators false same b passes = cc

pub returns-in-Compute-Compute : goal.returns-in-Compute-Compute
returns-in-Compute-Compute c =
    let here = c.in-Compute-Compute in
    IfSome_then c.fixed_by_computation.result c.fixed_by_computation.ensures (λ arg known binding passes.
    known binding (but_operators (is_variable binding here.to here.x) (op_eq here.op-0 here.op-1) (is_operand binding here.left here.a && is_operand binding here.right here.b)
    (subst (λ (s : Stmt). matches binding (Compute here.to here.op-0 here.left here.right) s ≡ true) here.is-1 (subst (λ (p : Form). matches binding p c.args.stmt ≡ true) here.is-0 passes))))
