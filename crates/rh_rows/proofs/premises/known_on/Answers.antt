use Rattle.std.proofs.Common.{sym, ◌∙◌}
use Rattle.rh_domain.specs.declared.fact.GroundFact.{GroundFact}
use Rattle.rh_rows.proofs.KnownBefore.{known_by_bit, known_nowhere}
use Rattle.rh_rows.proofs.premises.known_on.Goals as goal

pub returns-in-Some : goal.returns-in-Some
returns-in-Some g c =
    let site = c.args.site.now in
    let is = site.is in
    let fact : GroundFact = record { schema = c.args.schema; args = c.args.args.now } in
    c.has.ensures ∙ known_by_bit site.schemas.now site.program.now (g.T.BitTest.holds c.args.known.now) site.place site.proc.now is.proc_at fact c.args.edge c.in-Some.bit (c.in-Some.ensures.found site.program.now is.laid)

pub returns-in-None : goal.returns-in-None
returns-in-None g c =
    let site = c.args.site.now in
    let is = site.is in
    let fact : GroundFact = record { schema = c.args.schema; args = c.args.args.now } in
    sym (known_nowhere site.schemas.now site.program.now (g.T.BitTest.holds c.args.known.now) site.place site.proc.now is.proc_at fact c.args.edge (c.in-None.ensures.none site.program.now is.laid))
