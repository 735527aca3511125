use Rattle.std.proofs.Common.{◌≡◌, drop}
use Rattle.rh_rule_text.specs.Unknown.{first_of, unknown_cond}
use Rattle.rh_rule_text.proofs.unknown.unknown_in_conds.Given as goal

abbrev pub invariant-loop-cond : goal.invariant-loop-cond
invariant-loop-cond l = first_of (unknown_cond l.facts l.metas) l.conds ≡ first_of (unknown_cond l.facts l.metas) (drop l.cond-index l.conds)
