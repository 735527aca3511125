use Rattle.std.proofs.Common.{◌≡◌, ℕ, ◌<◌, ◌≤◌, get_or}
use Rattle.std.specs.Prelude.{if◌then◌else◌, ◌==◌}
use Rattle.rh_classes.proofs.closure.join.Given as goal

abbrev pub invariant-loop-label : goal.invariant-loop-label
invariant-loop-label l = record {
  done : (k : ℕ) → k < l.label-index → get_or l.labels k 0 ≡ (if get_or l.fn.labels k 0 == l.lost then l.kept else get_or l.fn.labels k 0);
  rest : (k : ℕ) → l.label-index ≤ k → get_or l.labels k 0 ≡ get_or l.fn.labels k 0;
}
