use Rattle.std.proofs.Common.{◌≡◌, length, sum}
use Rattle.rh_system.specs.Rows.{HoldsGreatest}
use Rattle.rh_system.proofs.rounds.greatest.Given as goal

abbrev pub invariant-loop : goal.invariant-loop
invariant-loop g l = record {
  as_long : length l.words.items ≡ length (g.S.System.full_words l.system);
  holds : HoldsGreatest (g.S.System.rows l.system) l.words.items;
}

abbrev pub decreases-loop : goal.decreases-loop
decreases-loop g l = sum l.words.items
