use Rattle.std.proofs.Common.{◌≡◌, Some, slice_get, subst}
use Rattle.rh_term.specs.declared.clauses.Part.{Part}
use Rattle.rh_term.specs.Clauses.{IsReached, part_clauses}
use Rattle.rh_term.proofs.InParts.{reached}
use Rattle.rh_term.proofs.numbered.in_parts.Goals as goal

pub returns-in-At : goal.returns-in-At
returns-in-At c =
    let at : slice_get (part_clauses c.part-item.result) c.loop-part.left ≡ Some c.in-At.clause =
    subst (IsReached (part_clauses c.part-item.result) c.loop-part.left) c.in-At.is c.in_ok-clause.ensures in
    reached part_clauses c.args.parts.now c.loop-part.part-index c.part-item.result c.loop-part-test.true c.args.number c.loop-part.left c.in-At.clause
    c.loop-part.invariant
    (subst (λ (part : Part). slice_get (part_clauses part) c.loop-part.left ≡ Some c.in-At.clause) c.part-item.is at)
