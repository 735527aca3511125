-- What the schemas say is so.
use Rattle.std.specs.Prelude.{List, IsTrue}
use Rattle.rh_term.specs.declared.term.Term.{Term}
use Rattle.rh_term.specs.Clause.{are_true}
use Rattle.rh_term.specs.Model.{Model, IsModel, same_in}
use Rattle.rh_term.specs.Term.{IsTermList}
use Rattle.rh_axioms.specs.declared.table.Axiom.{Axiom}
use Rattle.rh_axioms.specs.Rows.{row, instances_of}

-- the instances of a schema are true in every model
abbrev pub HoldsInModels : Axiom → Type 0
HoldsInModels schema =
    (model : Model) (terms : List Term) → IsModel model → IsTermList terms → IsTrue (are_true (same_in model terms) (row terms schema))

-- so are those of a table
abbrev pub TablesHold : Type 0
TablesHold =
    (schemas : List Axiom) (model : Model) (terms : List Term) → IsModel model → IsTermList terms
    → IsTrue (are_true (same_in model terms) (instances_of schemas terms))
