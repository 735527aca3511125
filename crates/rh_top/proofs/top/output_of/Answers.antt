use Rattle.std.proofs.Common.{ℤ, rules, subst, w64}
use Rattle.std.proofs.lemmas.Int.{to_z-of_z}
use Rattle.std.specs.Prelude.{IfOk}
use Rattle.rh_args.specs.declared.command.Command.TheVariants.{Opt, Check, Prove, Audit, Run, Gen}
use Rattle.rh_top.specs.Outputs.{IsOfProgram}
use Rattle.rh_top.proofs.Results.{made_by}
use Rattle.rh_top.proofs.top.output_of.Goals as goal

pub returns-in-Opt-clause-made : goal.returns-in-Opt-clause-made
returns-in-Opt-clause-made g c =
    let faults = g.S.Shelf.faults c.args.shelf.now in
    made_by (g.S.Shelf.holds c.args.shelf.now) faults faults c.args.command (Opt c.in-Opt.workers c.in-Opt.rules c.in-Opt.program) c.opt.result c.in-Opt.is c.opt.ensures.made

pub returns-in-Check-clause-made : goal.returns-in-Check-clause-made
returns-in-Check-clause-made g c =
    let faults = g.S.Shelf.faults c.args.shelf.now in
    made_by (g.S.Shelf.holds c.args.shelf.now) faults faults c.args.command (Check c.in-Check.rules) c.check.result c.in-Check.is c.check.ensures.made

pub returns-in-Prove-clause-made : goal.returns-in-Prove-clause-made
returns-in-Prove-clause-made g c =
    let faults = g.S.Shelf.faults c.args.shelf.now in
    made_by (g.S.Shelf.holds c.args.shelf.now) faults faults c.args.command (Prove c.in-Prove.rules) c.prove.result c.in-Prove.is c.prove.ensures.made

pub returns-in-Audit-clause-made : goal.returns-in-Audit-clause-made
returns-in-Audit-clause-made g c =
    let faults = g.S.Shelf.faults c.args.shelf.now in
    made_by (g.S.Shelf.holds c.args.shelf.now) faults faults c.args.command (Audit c.in-Audit.rules c.in-Audit.log) c.audit.result c.in-Audit.is c.audit.ensures.made

pub returns-in-Run-clause-made : goal.returns-in-Run-clause-made
returns-in-Run-clause-made g c =
    let faults = g.S.Shelf.faults c.args.shelf.now in
    made_by (g.S.Shelf.holds c.args.shelf.now) faults faults c.args.command (Run c.in-Run.steps c.in-Run.program c.in-Run.arg) c.run.result c.in-Run.is
    (subst (λ (arg : ℤ). IfOk c.run.result (λ text. IsOfProgram c.in-Run.steps (g.S.Shelf.holds c.args.shelf.now c.in-Run.program.now) arg text.items)) (to_z-of_z w64 c.in-Run.arg (search rules)) c.run.ensures.made)

pub returns-in-Gen-clause-made : goal.returns-in-Gen-clause-made
returns-in-Gen-clause-made g c =
    let faults = g.S.Shelf.faults c.args.shelf.now in
    made_by (g.S.Shelf.holds c.args.shelf.now) faults faults c.args.command (Gen c.in-Gen.workers c.in-Gen.n) c.generate_and_count.result c.in-Gen.is c.generate_and_count.ensures.made
