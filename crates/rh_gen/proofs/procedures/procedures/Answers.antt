use Rattle.std.proofs.Common.{◌≡◌, ◌+◌, ◌-◌, ◌++◌, ◌∷◌, [], ap, ◌∙◌, arith}
use Rattle.rh_gen.specs.Generated.{generated, made_proc, procs_from}
use Rattle.rh_gen.proofs.Made.{all_procs, proc_more}
use Rattle.rh_gen.proofs.procedures.procedures.Goals as goal

pub loop-place-preserved : goal.loop-place-preserved
loop-place-preserved c =
    let procs = c.args.procs in
    let place = c.loop-place.place in
    let below = c.loop-place-test.true in
    let state = c.loop-place.draws.state in
    let one : c.push.new.self.items ≡ c.loop-place.made.items ++ made_proc procs (place + 1) state ∷ [] =
    c.in_ok-push.ensures.items ∙ ap (λ p. c.loop-place.made.items ++ p ∷ []) c.in_ok-procedure.ensures.proc in (
      omega (arith, below),
      proc_more procs (place + 1) (procs - (place + 1)) (procs - place) state c.procedure.new.draws.state (omega (arith, below)) c.loop-place.made.items c.push.new.self.items (procs_from procs 1 procs procs)
          c.in_ok-procedure.ensures.state one c.loop-place.invariant.1,
    )

pub returns : goal.returns
unfolding generated
returns c =
    let procs = c.args.procs in
    let place = c.loop-place.place in
    let past = c.loop-place-test.false in
    let whole : c.loop-place.made.items ≡ procs_from procs 1 procs procs =
    all_procs procs (place + 1) (procs - place) c.loop-place.draws.state (omega (arith, past)) c.loop-place.made.items (procs_from procs 1 procs procs) c.loop-place.invariant.1 in
    c.in_ok-push-2.ensures.items ∙ (λ i. whole i ++ c.in_ok-main_proc.ensures i ∷ [])
