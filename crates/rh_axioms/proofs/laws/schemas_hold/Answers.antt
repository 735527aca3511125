use Rattle.rh_axioms.proofs.Truths.{schema_holds, tables_hold}
use Rattle.rh_axioms.proofs.laws.schemas_hold.Goals as goal

pub returns-clause-schemas : goal.returns-clause-schemas
returns-clause-schemas c = schema_holds

pub returns-clause-tables : goal.returns-clause-tables
returns-clause-tables c = tables_hold
