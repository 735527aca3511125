use Rattle.std.proofs.Common.{length, sym, ap, subst, List, ℕ, arith}
use Rattle.std.proofs.lemmas.Option.{slice_get-get_or}
use Rattle.rh_layout.specs.Entering.{AreEntering}
use Rattle.rh_layout.proofs.EnteringEdges.{all_edges, one_more_step}
use Rattle.rh_layout.proofs.entering.entering_numbers.Goals as goal

pub loop-place-preserved : goal.loop-place-preserved
loop-place-preserved c =
    let known = c.loop-place.invariant in
    let step = one_more_step c.args.proc.now c.args.program.now c.args.number c.args.edges.now c.loop-place.place _ c.target-target.result
    (record { proc_at = c.requires.proc; edges_are = c.requires.edges; edge_at = slice_get-get_or c.args.edges.now c.loop-place.place _ c.loop-place-test.true; target_is = c.target-target.ensures })
    c.loop-place.entering.items c.add.new.entering.items c.in_ok-add.ensures known.many known.first in
    record { many = step.0; first = step.1 }

pub returns : goal.returns
returns c =
    let size = ap length c.requires.edges in
    subst (λ (e : List (List ℕ)). AreEntering c.args.proc.now e) (sym c.from.ensures)
    (all_edges c.args.proc.now c.loop-place.entering.items c.loop-place.place (omega (arith, size, c.loop-place-test.false)) c.loop-place.invariant.many c.loop-place.invariant.first)
