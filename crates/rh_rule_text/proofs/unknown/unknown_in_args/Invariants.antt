use Rattle.std.proofs.Common.{◌≡◌, drop}
use Rattle.rh_rule_text.specs.Unknown.{first_of, unknown_base}
use Rattle.rh_rule_text.proofs.unknown.unknown_in_args.Given as goal

abbrev pub invariant-loop-arg : goal.invariant-loop-arg
invariant-loop-arg l = first_of (unknown_base l.metas) l.args ≡ first_of (unknown_base l.metas) (drop l.arg-index l.args)
