use Rattle.std.proofs.Common.{◌≡◌, ◌<◌, ◌+◌, Some, ap, sym, ◌∙◌, arith}
use Rattle.rh_il.specs.declared.program.Stmt.{Stmt}
use Rattle.rh_il.specs.declared.program.Stmt.TheVariants.{Address, Call}
use Rattle.rh_il_step.specs.State.{width_of}
use Rattle.rh_il_step.proofs.Naming.{called_is_there, pointed_is_own}
use Rattle.rh_il_step.proofs.stepping.execute.Goals as goal

pub overflow_add-location : goal.overflow_add-location
overflow_add-location c =
    let own = pointed_is_own c.args.program.now c.count-count.ensures.program c.args.top c.args.number c.in-Address.to c.in-Address.of
    (c.requires.at ∙ ap (λ (stmt : Stmt). Some (c.args.number, stmt)) c.in-Address.is) in
    omega (arith, own, c.requires.inside, c.from.ensures)

pub call-requires : goal.call-requires
call-requires c =
    called_is_there c.args.program.now c.count-count.ensures.program c.args.top c.args.number c.in-Call.to c.in-Call.proc c.in-Call.arg
    (c.requires.at ∙ ap (λ (stmt : Stmt). Some (c.args.number, stmt)) c.in-Call.is)
