use Rattle.std.proofs.Common.{◌≡◌, ◌++◌, take, codes}
use Rattle.std.specs.List.{flat_map}
use Rattle.rh_report.specs.Output.{arg_text}
use Rattle.rh_report.proofs.fact_text.push_more_args.Given as goal

abbrev pub invariant-loop-arg : goal.invariant-loop-arg
invariant-loop-arg l =
    l.out.items ≡ l.initial.out.items ++ flat_map (λ arg. codes ", " ++ arg_text l.vars arg) (take l.arg-index l.args)
