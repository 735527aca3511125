use Rattle.std.proofs.Common.{◌+◌, ◌-◌, ◌++◌, ◌∷◌, [], ap, ◌∙◌, arith}
use Rattle.rh_gen.specs.Generated.{state_after, stmts_from}
use Rattle.rh_gen.proofs.Made.{all_stmts, last_state, state_more, stmt_more}
use Rattle.rh_gen.proofs.statements.statements.Goals as goal

pub loop-number-preserved : goal.loop-number-preserved
loop-number-preserved c =
    let procs = c.args.procs in
    let number = c.loop-number.number in
    let below = c.loop-number-test.true in
    let so_far = c.loop-number.invariant in
    let state = c.loop-number.draws.state in
    let later = c.stmt.new.self.state in
    record {
      low = omega (arith, below);
      made = stmt_more procs number (39 - (number + 1)) (39 - number) state later (omega (arith, below)) c.loop-number.body c.push.new.self (stmts_from procs 0 39 c.args.draws.now.state) c.stmt.ensures.state
          (c.in_ok-push.ensures.ok ∙ ap (λ s. c.loop-number.body ++ s ∷ []) c.stmt.ensures.stmt) so_far.made;
      left = state_more procs number (39 - (number + 1)) (39 - number) state later (omega (arith, below)) (state_after procs 0 39 c.args.draws.now.state) c.stmt.ensures.state so_far.left;
    }

pub returns-clause-body : goal.returns-clause-body
returns-clause-body c =
    let procs = c.args.procs in
    let number = c.loop-number.number in
    let past = c.loop-number-test.false in
    let whole = all_stmts procs number (39 - number) c.loop-number.draws.state (omega (arith, past)) c.loop-number.body (stmts_from procs 0 39 c.args.draws.now.state) c.loop-number.invariant.made in
    c.in_ok-push-2.ensures.ok ∙ (λ i. whole i ++ c.returning.ensures i ∷ [])

pub returns-clause-state : goal.returns-clause-state
returns-clause-state c =
    let procs = c.args.procs in
    let number = c.loop-number.number in
    let past = c.loop-number-test.false in
    last_state procs number (39 - number) c.loop-number.draws.state (omega (arith, past)) (state_after procs 0 39 c.args.draws.now.state) c.loop-number.invariant.left
