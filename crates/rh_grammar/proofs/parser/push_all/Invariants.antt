use Rattle.std.proofs.Common.{◌≡◌, ◌++◌, ◌≤◌, length, drop, reverse}
use Rattle.rh_grammar.proofs.parser.push_all.Given as goal

abbrev pub invariant-loop-left : goal.invariant-loop-left
invariant-loop-left l = record {
  within : l.left ≤ length l.symbols;
  so_far : reverse l.stack.items ≡ drop l.left l.symbols ++ reverse l.initial.stack.items;
}

abbrev pub decreases-loop-left : goal.decreases-loop-left
decreases-loop-left l = l.left
