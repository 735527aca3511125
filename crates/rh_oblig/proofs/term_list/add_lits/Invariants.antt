use Rattle.std.proofs.Common.{drop}
use Rattle.std.specs.List.{flat_map}
use Rattle.rh_meaning.specs.Literal.{literal_trees}
use Rattle.rh_meaning.specs.View.{lits_of}
use Rattle.rh_oblig.proofs.Build.{Adds}
use Rattle.rh_oblig.proofs.term_list.add_lits.Given as goal

abbrev pub invariant-loop-lit : goal.invariant-loop-lit
invariant-loop-lit l = Adds l.fn.terms l.terms (flat_map literal_trees (lits_of l.lits)) (flat_map literal_trees (lits_of (drop l.lit-index l.lits)))
