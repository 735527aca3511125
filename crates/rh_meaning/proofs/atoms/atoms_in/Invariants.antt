use Rattle.std.proofs.Common.{◌+◌, ◌*◌, ◌≤◌, length, map, take}
use Rattle.rh_meaning.specs.Atoms.{ArePut, ForStore}
use Rattle.rh_meaning.specs.Meaning.{atom_literal}
use Rattle.rh_meaning.specs.Tree.{Extends}
use Rattle.rh_meaning.proofs.atoms.atoms_in.Given as goal

abbrev pub invariant-loop-atom : goal.invariant-loop-atom
invariant-loop-atom l = record {
  grown : Extends l.fn.terms l.terms;
  few : length l.terms ≤ length l.fn.terms + 10 * l.atom-index;
  put : ForStore l.places l.args l.fn.terms l.store (λ params tree. ArePut l.fn.terms l.terms (map (atom_literal params l.args tree) (take l.atom-index l.atoms)) l.lits.items);
}
