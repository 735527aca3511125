use Rattle.std.proofs.Common.{◌≡◌, map, take}
use Rattle.rh_meaning.specs.Meaning.{atom_literal}
use Rattle.rh_meaning.specs.View.{tree_of, lits_of}
use Rattle.rh_meaning.proofs.meaning.atom_literals.Given as goal

abbrev pub invariant-loop-atom : goal.invariant-loop-atom
invariant-loop-atom l = lits_of l.lits.items ≡ map (atom_literal l.params l.args (tree_of l.store)) (take l.atom-index l.atoms)
