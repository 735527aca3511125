use Rattle.std.proofs.Common.{◌≡◌, ◌++◌, take}
use Rattle.rh_axioms.specs.Rows.{instances_of}
use Rattle.rh_axioms.proofs.listing.add_instances.Given as goal

abbrev pub invariant-loop-schema : goal.invariant-loop-schema
invariant-loop-schema g l = l.clauses ≡ l.fn.clauses ++ instances_of (take l.schema-index l.table.rows) l.terms
