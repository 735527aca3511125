use Rattle.std.proofs.Common.{◌<◌, ◌+◌, ◌^◌, length, sym, subst}
use Rattle.rh_term.specs.declared.clauses.Part.{Part}
use Rattle.rh_term.specs.Clauses.{part_clauses}
use Rattle.rh_refuter.specs.Choice.{Adds}
use Rattle.rh_refuter.proofs.Adding.{adds_next, has_room}
use Rattle.rh_refuter.proofs.choice.Seen.with_parts.Goals as goal

pub with_part-seen-requires : goal.with_part-seen-requires
with_part-seen-requires c =
    subst (λ (part : Part). c.loop-part.seen.count + length (part_clauses part) < 2 ^ 32) (sym c.part-item.is)
    (has_room part_clauses c.args.parts.now c.loop-part.part-index c.part-item.result c.loop-part-test.true c.args.self.count
    c.loop-part.seen.count c.loop-part.invariant.counted c.requires)

pub loop-part-preserved : goal.loop-part-preserved
loop-part-preserved c =
    let labels = c.args.labels.now in
    let now = c.loop-part.seen in
    let new = c.with_part-seen.result in
    adds_next labels part_clauses c.args.parts.now c.loop-part.part-index c.part-item.result c.loop-part-test.true c.args.self now new c.loop-part.invariant
    (subst (λ (part : Part). Adds labels now (part_clauses part) new) c.part-item.is c.with_part-seen.ensures)
