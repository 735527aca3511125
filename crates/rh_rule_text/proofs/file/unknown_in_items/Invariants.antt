use Rattle.std.proofs.Common.{◌≡◌, drop}
use Rattle.rh_rule_text.specs.Unknown.{first_of, unknown_item}
use Rattle.rh_rule_text.proofs.file.unknown_in_items.Given as goal

abbrev pub invariant-loop-item : goal.invariant-loop-item
invariant-loop-item l = first_of (unknown_item l.facts) l.items ≡ first_of (unknown_item l.facts) (drop l.item-index l.items)
