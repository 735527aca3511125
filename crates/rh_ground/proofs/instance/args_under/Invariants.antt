use Rattle.std.proofs.Common.{◌≡◌, map, take}
use Rattle.rh_domain.specs.Binding.{arg_under}
use Rattle.rh_ground.proofs.instance.args_under.Given as goal

-- the arguments so far
abbrev pub invariant-loop-base : goal.invariant-loop-base
invariant-loop-base l = l.args ≡ map (arg_under l.binding) (take l.base-index l.bases)
