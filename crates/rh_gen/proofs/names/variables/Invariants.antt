use Rattle.std.proofs.Common.{◌≡◌, ◌≤◌, map}
use Rattle.std.specs.List.{range_with_len}
use Rattle.rh_gen.specs.Generated.{numbered}
use Rattle.rh_gen.proofs.names.variables.Given as goal

abbrev pub invariant-loop-number : goal.invariant-loop-number
invariant-loop-number l = (l.number ≤ 8) × (l.vars ≡ map (numbered 118) (range_with_len 0 l.number))
