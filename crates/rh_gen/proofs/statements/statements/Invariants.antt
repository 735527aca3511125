use Rattle.std.proofs.Common.{◌≡◌, ◌-◌, ◌≤◌, ◌++◌}
use Rattle.rh_gen.specs.Generated.{state_after, stmts_from}
use Rattle.rh_gen.proofs.statements.statements.Given as goal

abbrev pub invariant-loop-number : goal.invariant-loop-number
invariant-loop-number l = record {
  low : l.number ≤ 39;
  made : l.body ++ stmts_from l.procs l.number (39 - l.number) l.draws.state ≡ stmts_from l.procs 0 39 l.initial.draws.state;
  left : state_after l.procs l.number (39 - l.number) l.draws.state ≡ state_after l.procs 0 39 l.initial.draws.state;
}
