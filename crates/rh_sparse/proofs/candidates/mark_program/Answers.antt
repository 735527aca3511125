use Rattle.rh_sparse.specs.Candidates.{concluded_in}
use Rattle.rh_sparse.proofs.Marking.{marks_next}
use Rattle.rh_sparse.proofs.candidates.mark_program.Goals as goal

pub loop-place-preserved : goal.loop-place-preserved
loop-place-preserved c =
    let ground = c.args.ground.now in
    marks_next (concluded_in ground.file c.args.rulings.now ground.program) c.loop-place.place c.args.masks.now.items c.loop-place.masks.items c.mark_procedure.new.masks.items c.loop-place.invariant c.mark_procedure.ensures
