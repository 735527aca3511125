use Rattle.std.proofs.Common.{◌≡◌, ◌<◌, length, get_or, subst, sym, ap, ◌∙◌}
use Rattle.std.specs.Prelude.{slice_get}
use Rattle.std.specs.Option.{option_and_then}
use Rattle.rh_il.specs.declared.program.Stmt.TheVariants.{Skip}
use Rattle.rh_il.specs.Checks.{stmt_fault}
use Rattle.rh_il.proofs.Firsts.{first_none, found_at, stops}
use Rattle.rh_il.proofs.check.check_body.Goals as goal
use Rattle.rh_il.proofs.check.check_body.Goals.{After-check_stmt}

-- the item is within the body
within : (c : After-check_stmt) → c.loop-item.item < length c.args.proc.now.body
within c = subst (λ xs. c.loop-item.item < length xs) c.as_slice-stmt-items.ensures.value c.loop-item-test.true

-- the statement that was checked is the one there
there : (c : After-check_stmt) → stmt_fault c.args.procs c.args.number c.args.proc.now c.loop-item.item (get_or c.as_slice-stmt-items.result.now c.loop-item.item Skip) ≡ option_and_then (stmt_fault c.args.procs c.args.number c.args.proc.now c.loop-item.item) (slice_get c.args.proc.now.body c.loop-item.item)
there c =
    ap (λ xs. stmt_fault c.args.procs c.args.number c.args.proc.now c.loop-item.item (get_or xs c.loop-item.item Skip)) c.as_slice-stmt-items.ensures.value
    ∙ found_at (stmt_fault c.args.procs c.args.number c.args.proc.now c.loop-item.item) c.args.proc.now.body c.loop-item.item Skip (within c)

pub returns-in_err-check_stmt : goal.returns-in_err-check_stmt
returns-in_err-check_stmt c =
    let here = (goal.at.returns-in_err-check_stmt c).After-check_stmt in
    stops c.loop-item.item (length c.args.proc.now.body) (λ item. option_and_then (stmt_fault c.args.procs c.args.number c.args.proc.now item) (slice_get c.args.proc.now.body item)) c.in_err-check_stmt.field-0.0 c.from_residual.result c.loop-item.invariant
    (c.in_err-check_stmt.ensures ∙ there here) c.from_residual.ensures.1 (within here)

pub loop-item-preserved : goal.loop-item-preserved
loop-item-preserved c =
    let here = (goal.at.loop-item-preserved c).After-check_stmt in
    first_none c.loop-item.item (λ item. option_and_then (stmt_fault c.args.procs c.args.number c.args.proc.now item) (slice_get c.args.proc.now.body item)) c.loop-item.invariant (sym (c.in_ok-check_stmt.ensures ∙ there here))
