use Rattle.std.proofs.Common.{◌≡◌, ◌++◌, take, codes}
use Rattle.std.specs.List.{flat_map}
use Rattle.rh_rule_print.specs.Text.{operand_text}
use Rattle.rh_rule_print.proofs.conditions.push_more_args.Given as goal

abbrev pub invariant-loop-arg : goal.invariant-loop-arg
invariant-loop-arg l =
    l.out.items ≡ l.initial.out.items ++ flat_map (λ arg. codes ", " ++ operand_text l.params arg) (take l.arg-index l.args)
