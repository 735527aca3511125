use Rattle.std.proofs.Common.{◌≡◌, take}
use Rattle.std.specs.List.{flat_map}
use Rattle.rh_rule_text.specs.Resolve.{premises_of}
use Rattle.rh_rule_text.proofs.resolve.premises.Given as goal

abbrev pub invariant-loop-cond : goal.invariant-loop-cond
invariant-loop-cond l = l.premises ≡ flat_map (premises_of l.facts l.metas) (take l.cond-index l.conds)
