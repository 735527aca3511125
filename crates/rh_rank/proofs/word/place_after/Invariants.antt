use Rattle.std.proofs.Common.{◌<◌, ◌≤◌, ◌%◌, ◌^◌, ◌-◌, count_ones}
use Rattle.rh_rank.proofs.word.place_after.Given as goal

abbrev pub invariant-loop-high : goal.invariant-loop-high
invariant-loop-high l = record {
  apart : l.low < l.high;
  within : l.high ≤ 64;
  few : count_ones (l.word % 2 ^ l.low) ≤ l.ones;
  many : l.ones < count_ones (l.word % 2 ^ l.high);
}

abbrev pub decreases-loop-high : goal.decreases-loop-high
decreases-loop-high l = l.high - l.low
