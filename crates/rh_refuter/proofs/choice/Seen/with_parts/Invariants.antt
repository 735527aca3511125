use Rattle.std.proofs.Common.{take}
use Rattle.std.specs.List.{flat_map}
use Rattle.rh_term.specs.Clauses.{part_clauses}
use Rattle.rh_refuter.specs.Choice.{Adds}
use Rattle.rh_refuter.proofs.choice.Seen.with_parts.Given as goal

abbrev pub invariant-loop-part : goal.invariant-loop-part
invariant-loop-part l = Adds l.labels l.fn.self (flat_map part_clauses (take l.part-index l.parts)) l.seen
