use Rattle.std.proofs.Common.{sym, ◌∙◌}
use Rattle.rh_ground.proofs.Visiting.{visit_one}
use Rattle.rh_ground.proofs.visit.visit_wanted.Goals as goal

pub returns-then-accepts : goal.returns-then-accepts
returns-then-accepts g c =
    visit_one (g.V.Visitor.visits c.args.visitor.now) (g.V.Wanted.accepts c.args.visitor.now) c.args.binding.now c.args.kept.now c.visit.new.kept
    (sym c.accepts.ensures ∙ c.if-accepts.true) c.visit.ensures
