use Rattle.std.proofs.Common.{◌≡◌, take}
use Rattle.std.specs.List.{flat_map}
use Rattle.rh_rule_text.specs.Resolve.{rules_of}
use Rattle.rh_rule_text.proofs.file.rules_of.Given as goal

abbrev pub invariant-loop-item : goal.invariant-loop-item
invariant-loop-item l = l.rules.items ≡ flat_map (rules_of l.facts) (take l.item-index l.items)
