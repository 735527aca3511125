use Rattle.std.proofs.Common.{◌≡◌, ◌++◌, ◌∷◌, drop}
use Rattle.rh_il.specs.declared.program.Node.TheVariants.{Entry}
use Rattle.rh_il.specs.declared.program.Slot.TheVariants.{Out}
use Rattle.rh_il.specs.Flow.{edges_behind}
use Rattle.rh_il.specs.Entering.{entering}
use Rattle.rh_il.proofs.flow.edges_into.Given as goal

abbrev pub invariant-loop-number : goal.invariant-loop-number
invariant-loop-number l =
    l.edges.items ++ entering l.body l.node (edges_behind (drop l.number l.body) l.number) ≡ entering l.body l.node (record { node = Entry; slot = Out } ∷ edges_behind l.body 0)
