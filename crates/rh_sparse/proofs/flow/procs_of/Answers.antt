use Rattle.std.proofs.Common.{List, sym, subst}
use Rattle.std.specs.List.{All}
use Rattle.std.proofs.lemmas.List.Elements.{All-take}
use Rattle.rh_il.specs.declared.program.Proc.{Proc}
use Rattle.rh_il.specs.Checks.{IsProgram}
use Rattle.rh_layout.specs.declared.laid.LaidProc.{LaidProc}
use Rattle.rh_sparse.specs.Flow.{HasFewNodes}
use Rattle.rh_sparse.proofs.FewNodes.{few_nodes}
use Rattle.rh_sparse.proofs.flow.procs_of.Goals as goal

pub returns-clause-small : goal.returns-clause-small
returns-clause-small c =
    let ground = c.args.ground.now in
    let program = subst (λ (procs : List Proc). IsProgram procs) c.program.ensures c.count-count.ensures.program in
    let few = few_nodes ground.file.schemas ground.program c.layout.result.now c.layout.ensures program in
    All-take HasFewNodes c.count-count.result c.as_slice.result.now (subst (λ (parts : List LaidProc). All HasFewNodes parts) (sym c.as_slice.ensures.value) few)
