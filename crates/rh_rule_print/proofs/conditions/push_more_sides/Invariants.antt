use Rattle.std.proofs.Common.{◌≡◌, ◌++◌, take, codes}
use Rattle.std.specs.List.{flat_map}
use Rattle.rh_rule_print.specs.Text.{side_text}
use Rattle.rh_rule_print.proofs.conditions.push_more_sides.Given as goal

abbrev pub invariant-loop-side : goal.invariant-loop-side
invariant-loop-side l =
    l.out.items ≡ l.initial.out.items ++ flat_map (λ side. codes ", " ++ side_text l.params side) (take l.side-index l.sides)
