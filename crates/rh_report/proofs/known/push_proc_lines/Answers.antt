use Rattle.std.proofs.Common.{get_or, arith}
use Rattle.std.proofs.lemmas.List.{get_or_default}
use Rattle.rh_il.specs.declared.program.Edge.{Edge}
use Rattle.rh_il.specs.declared.program.Node.TheVariants.{Entry}
use Rattle.rh_il.specs.declared.program.Slot.TheVariants.{Out}
use Rattle.rh_report.proofs.EdgeLines.{edge_added, edges_added}
use Rattle.rh_report.proofs.known.push_proc_lines.Goals as goal

pub loop-edge-preserved : goal.loop-edge-preserved
loop-edge-preserved c =
    let edges = c.as_slice-edges.result.now in
    let number = c.loop-edge.edge-index in
    let below = c.loop-edge-test.true in
    let otherwise : Edge = record { node = Entry; slot = Out } in
    let edge = get_or edges number otherwise in
    let start = c.loop-edge.invariant.start_is in
    record {
      start_is = omega (arith, start);
      written = λ proc proc_at.
          edge_added c.args.schemas.now c.args.program.now c.args.words.now c.args.place c.args.laid.now c.requires edges c.as_slice-edges.ensures.value proc proc_at number c.loop-edge.start
          edge c.args.out.now.items c.loop-edge.out.items c.push_lines.new.out.items below (get_or_default edges number otherwise edge below) start (c.loop-edge.invariant.written proc proc_at) c.in_ok-push_lines.ensures;
    }

pub returns : goal.returns
returns c = λ proc proc_at.
    let past = c.loop-edge-test.false in
    edges_added c.args.schemas.now c.args.program.now c.args.words.now c.args.place c.args.laid.now c.requires c.as_slice-edges.result.now c.as_slice-edges.ensures.value proc proc_at c.loop-edge.edge-index
    c.args.out.now.items c.loop-edge.out.items (omega (arith, past)) (c.loop-edge.invariant.written proc proc_at)
