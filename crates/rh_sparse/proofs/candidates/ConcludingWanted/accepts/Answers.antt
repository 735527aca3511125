use Rattle.std.proofs.Common.{sym, ◌∙◌}
use Rattle.rh_ground.proofs.InstanceParts.{inside_instance}
use Rattle.rh_sparse.proofs.candidates.ConcludingWanted.accepts.Goals as goal

pub returns : goal.returns
returns c =
    let me = c.args.self.now in
    c.rule_matches.ensures ∙ sym (inside_instance me.site.proc.now me.rule.now c.args.binding.now me.site.edge.node me.inside)
