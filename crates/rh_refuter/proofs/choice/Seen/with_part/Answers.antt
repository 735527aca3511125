use Rattle.std.proofs.Common.{List, subst}
use Rattle.rh_term.specs.declared.clause.Clause.{Clause}
use Rattle.rh_term.specs.Computed.{computed_clauses}
use Rattle.rh_refuter.specs.Choice.{Adds}
use Rattle.rh_refuter.proofs.Adding.{adds_both}
use Rattle.rh_refuter.proofs.choice.Seen.with_part.Goals as goal

pub returns : goal.returns
returns c =
    let labels = c.args.labels.now in
    let part = c.args.part.now in
    adds_both labels c.args.self c.with_made.result c.with_computed.result part.made.items (computed_clauses part.computed)
    (subst (λ (made : List Clause). Adds labels c.args.self made c.with_made.result) c.as_slice.ensures.value c.with_made.ensures)
    c.with_computed.ensures
