use Rattle.std.proofs.Common.{◌≡◌, ℕ, ◌<◌, ◌≤◌, get_or}
use Rattle.rh_log.proofs.open.is_partition.Given as goal

abbrev pub invariant-loop-place : goal.invariant-loop-place
invariant-loop-place l = record {
  least : (i : ℕ) → i < l.place → get_or l.labels i 0 ≤ i;
  in_class : (i : ℕ) → i < l.place → get_or l.labels (get_or l.labels i 0) 0 ≡ get_or l.labels i 0;
}
