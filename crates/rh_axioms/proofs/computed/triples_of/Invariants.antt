use Rattle.std.proofs.Common.{◌≡◌, take}
use Rattle.std.specs.List.{flat_map}
use Rattle.rh_axioms.specs.Computed.{triples_with}
use Rattle.rh_axioms.proofs.computed.triples_of.Given as goal

abbrev pub invariant-loop-left : goal.invariant-loop-left
invariant-loop-left l = l.found.items ≡ flat_map (triples_with l.terms l.numbers l.op) (take l.left-index l.numbers)
