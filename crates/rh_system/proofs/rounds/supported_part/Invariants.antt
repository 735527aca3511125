use Rattle.std.proofs.Common.{get_or, ◌-◌, ◌≤◌}
use Rattle.rh_system.specs.Bits.{bits_in}
use Rattle.rh_system.proofs.Parts.{IsPartBelow}
use Rattle.rh_system.proofs.rounds.supported_part.Given as goal

abbrev pub invariant-loop-place : goal.invariant-loop-place
invariant-loop-place g l = (l.from ≤ 64) × IsPartBelow (g.S.System.rows l.system) (bits_in l.words) (get_or l.words l.word 0) l.word l.from l.part

abbrev pub decreases-loop-place : goal.decreases-loop-place
decreases-loop-place g l = 64 - l.from
