use Rattle.std.proofs.Common.{◌≡◌, drop}
use Rattle.rh_rule_text.specs.Unknown.{first_of, unknown_atom}
use Rattle.rh_rule_text.proofs.unknown.unknown_in_atoms.Given as goal

abbrev pub invariant-loop-atom : goal.invariant-loop-atom
invariant-loop-atom l = first_of (unknown_atom l.metas) l.atoms ≡ first_of (unknown_atom l.metas) (drop l.atom-index l.atoms)
