use Rattle.std.proofs.Common.{◌≡◌, None, map, take}
use Rattle.std.specs.List.{All}
use Rattle.rh_meaning.specs.View.{lits_of}
use Rattle.rh_oblig.specs.Obligation.{IsSmall, first_excess, parts_of}
use Rattle.rh_oblig.proofs.Each.{part_for}
use Rattle.rh_oblig.proofs.obligation.obligations_over.Given as goal

abbrev pub invariant-loop-goal : goal.invariant-loop-goal
invariant-loop-goal l = record {
  made : parts_of l.made.items ≡ map (part_for l.schemas l.rule) (lits_of (take l.goal-index l.goal-items));
  small : first_excess l.schemas l.rule (lits_of (take l.goal-index l.goal-items)) ≡ None;
  clauses : All IsSmall l.made.items;
}
