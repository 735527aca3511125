use Rattle.std.specs.List.{range_with_len}
use Rattle.std.proofs.Common.{◌≡◌, ◌∙◌, subst, arith}
use Rattle.rh_sparse.specs.Candidates.{Marks, concluded_on}
use Rattle.rh_sparse.proofs.Marking.{any_of, marks_next}
use Rattle.rh_sparse.proofs.candidates.mark_procedure.Goals as goal

pub loop-number-preserved : goal.loop-number-preserved
loop-number-preserved c =
    let ground = c.args.ground.now in
    marks_next (concluded_on ground.file c.args.rulings.now ground.program c.args.place) c.loop-number.number c.args.masks.now.items c.loop-number.masks.items c.mark_edge.new.masks.items c.loop-number.invariant c.mark_edge.ensures

pub returns : goal.returns
returns c =
    let ground = c.args.ground.now in
    let tests = concluded_on ground.file c.args.rulings.now ground.program c.args.place in
    let last : c.loop-number.number ≡ c.edge_count-number-end.result = omega (arith, c.loop-number-test.false, c.loop-number.auto.number-end) in
    subst (λ count. Marks (any_of tests (range_with_len 0 count)) c.args.masks.now.items c.loop-number.masks.items) (last ∙ c.edge_count-number-end.ensures) c.loop-number.invariant
