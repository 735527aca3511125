use Rattle.std.proofs.Common.{◌≡◌, take}
use Rattle.std.specs.List.{flat_map}
use Rattle.rh_rule_text.specs.Resolve.{schemas_of}
use Rattle.rh_rule_text.proofs.file.schemas_of.Given as goal

abbrev pub invariant-loop-item : goal.invariant-loop-item
invariant-loop-item l = l.schemas.items ≡ flat_map schemas_of (take l.item-index l.items)
