use Rattle.std.proofs.Common.{◌≡◌, length}
use Rattle.rh_layout.proofs.EnteringEdges.{AreFirst}
use Rattle.rh_layout.proofs.entering.entering_numbers.Given as goal

-- the numbers of the edges so far
abbrev pub invariant-loop-place : goal.invariant-loop-place
invariant-loop-place l = record {
  many : length l.entering.items ≡ length l.proc.body;
  first : AreFirst l.proc l.place l.entering.items;
}
