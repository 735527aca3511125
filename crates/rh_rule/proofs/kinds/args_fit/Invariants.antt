use Rattle.std.proofs.Common.{◌≡◌, drop}
use Rattle.rh_rule.specs.Kinds.{args_fit}
use Rattle.rh_rule.proofs.kinds.args_fit.Given as goal

abbrev pub invariant-loop-place : goal.invariant-loop-place
invariant-loop-place l = args_fit l.params (drop l.place-index l.places) l.rest ≡ args_fit l.params l.places l.args
