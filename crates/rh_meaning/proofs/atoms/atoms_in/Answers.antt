use Rattle.std.proofs.Common.{arith}
use Rattle.rh_meaning.specs.Meaning.{atom_literal}
use Rattle.rh_meaning.proofs.Places.{extends_further}
use Rattle.rh_meaning.proofs.Put.{item_more, stands_longer}
use Rattle.rh_meaning.proofs.atoms.atoms_in.Goals as goal

pub loop-atom-preserved : goal.loop-atom-preserved
loop-atom-preserved c = record {
  grown = extends_further c.loop-atom.invariant.grown c.in_ok-atom_at.ensures.grown;
  few = omega (arith, c.loop-atom.invariant.few, c.in_ok-atom_at.ensures.few);
  put = λ params fit tree stands.
      item_more (atom_literal params c.args.args.now tree) c.args.terms.now c.loop-atom.terms c.atom_at.new.terms c.args.atoms.now c.loop-atom.atom-index _ c.loop-atom.lits.items c.push.new.self.items
      c.in_ok-atom_at.field-0 (omega arith) (c.loop-atom.invariant.put params fit tree stands)
      (c.in_ok-atom_at.ensures.put params fit tree (stands_longer c.args.terms.now c.loop-atom.terms c.args.store tree c.loop-atom.invariant.grown stands)) c.in_ok-push.ensures.items;
}
