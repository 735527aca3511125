use Rattle.std.proofs.Common.{◌≡◌, ◌++◌, take, codes}
use Rattle.std.specs.List.{flat_map}
use Rattle.rh_rule_print.specs.Text.{atom_text}
use Rattle.rh_rule_print.proofs.facts.push_more_atoms.Given as goal

abbrev pub invariant-loop-atom : goal.invariant-loop-atom
invariant-loop-atom l =
    l.out.items ≡ l.initial.out.items ++ flat_map (λ atom. codes " and " ++ atom_text l.params atom) (take l.atom-index l.atoms)
