-- The procedures of a program have few nodes.
use Rattle.std.proofs.Common.{List, get_or, length, ap, arith}
use Rattle.std.specs.List.{All}
use Rattle.std.proofs.lemmas.Option.{slice_get-get_or}
use Rattle.rh_list.proofs.AtPlace.{read_at}
use Rattle.rh_il.specs.declared.program.Proc.{Proc}
use Rattle.rh_il.specs.Checks.{IsProgram}
use Rattle.rh_il.proofs.Passed.{passed, proc_parts, proc_passed}
use Rattle.rh_rule.specs.declared.schema.Schema.{Schema}
use Rattle.rh_layout.specs.declared.layout.Layout.{Layout}
use Rattle.rh_layout.specs.Layout.{IsLayoutOf}
use Rattle.rh_layout.proofs.FlowEdges.{edges_few}
use Rattle.rh_sparse.specs.Flow.{HasFewNodes}

pub few_nodes : (schemas : List Schema) (procs : List Proc) (layout : Layout) → IsLayoutOf schemas procs layout → IsProgram procs → All HasFewNodes layout.procs
few_nodes schemas procs layout is program k d below =
    let size = is.length_is in
    let at = read_at procs k (omega (arith, size, below)) in
    let short = proc_parts (length procs) k at.0 (proc_passed procs k at.0 (passed procs program.passes) at.1) in
    let laid = is.laid k at.0 (get_or layout.procs k d) at.1 (slice_get-get_or layout.procs k d below) in
    let many = laid.entering_are.many in
    let edges = edges_few at.0 1024 short.body in
    let same = ap length laid.edges_are in
    record { statements = omega (arith, many, short.body); edges = omega (arith, edges, same) }
