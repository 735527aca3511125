use Rattle.std.proofs.Common.{◌≡◌, ◌-◌, drop, length}
use Rattle.std.specs.List.{flat_map}
use Rattle.rh_il.specs.Numbers.{operand_numbers}
use Rattle.rh_domain.specs.Constants.{rising}
use Rattle.rh_domain.proofs.constants.constants_of.Given as goal

-- the operands of the last statements, as many as were taken
abbrev pub invariant-loop-taken : goal.invariant-loop-taken
invariant-loop-taken l = l.known.keys ≡ rising (flat_map operand_numbers (drop (length l.body - l.taken) l.body))
