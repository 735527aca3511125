use Rattle.std.proofs.Common.{◌≡◌, ◌++◌, take}
use Rattle.std.specs.List.{flat_map}
use Rattle.rh_axioms.specs.Computed.{triple_of}
use Rattle.rh_axioms.proofs.computed.add_triples.Given as goal

abbrev pub invariant-loop-right : goal.invariant-loop-right
invariant-loop-right l = l.found.items ≡ l.fn.found.items ++ flat_map (triple_of l.terms l.op l.left) (take l.right-index l.numbers)
