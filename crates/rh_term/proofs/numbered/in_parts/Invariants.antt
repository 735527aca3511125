use Rattle.std.proofs.Common.{◌≡◌, ◌+◌, length, take}
use Rattle.std.specs.List.{flat_map}
use Rattle.rh_term.specs.Clauses.{part_clauses}
use Rattle.rh_term.proofs.numbered.in_parts.Given as goal

abbrev pub invariant-loop-part : goal.invariant-loop-part
invariant-loop-part l = l.number ≡ length (flat_map part_clauses (take l.part-index l.parts)) + l.left
