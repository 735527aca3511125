use Rattle.std.proofs.Common.{◌≡◌, take}
use Rattle.std.specs.List.{flat_map}
use Rattle.rh_rule_text.specs.Resolve.{fact_names}
use Rattle.rh_rule_text.proofs.file.fact_names.Given as goal

abbrev pub invariant-loop-item : goal.invariant-loop-item
invariant-loop-item l = l.names.items ≡ flat_map fact_names (take l.item-index l.items)
