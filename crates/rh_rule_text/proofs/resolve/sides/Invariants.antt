use Rattle.std.proofs.Common.{◌≡◌, take}
use Rattle.std.specs.List.{flat_map}
use Rattle.rh_rule_text.specs.Resolve.{sides_of}
use Rattle.rh_rule_text.proofs.resolve.sides.Given as goal

abbrev pub invariant-loop-cond : goal.invariant-loop-cond
invariant-loop-cond l = l.sides ≡ flat_map (sides_of l.metas) (take l.cond-index l.conds)
