use Rattle.std.proofs.Common.{◌≡◌, ◌++◌, ◌∷◌, drop}
use Rattle.rh_il.specs.declared.program.Node.TheVariants.{Entry}
use Rattle.rh_il.specs.declared.program.Slot.TheVariants.{Out}
use Rattle.rh_il.specs.Flow.{edges_behind}
use Rattle.rh_layout.proofs.edges.edges_of.Given as goal

-- the edges so far, and those of the statements that are left
abbrev pub invariant-loop-number : goal.invariant-loop-number
invariant-loop-number l = l.edges.items ++ edges_behind (drop l.number l.body) l.number ≡ record { node = Entry; slot = Out } ∷ edges_behind l.body 0
