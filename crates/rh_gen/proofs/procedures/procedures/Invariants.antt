use Rattle.std.proofs.Common.{◌≡◌, ◌+◌, ◌-◌, ◌≤◌, ◌++◌}
use Rattle.rh_gen.specs.Generated.{procs_from}
use Rattle.rh_gen.proofs.procedures.procedures.Given as goal

abbrev pub invariant-loop-place : goal.invariant-loop-place
invariant-loop-place l =
    (l.place ≤ l.procs) × (l.made.items ++ procs_from l.procs (l.place + 1) (l.procs - l.place) l.draws.state ≡ procs_from l.procs 1 l.procs l.procs)
