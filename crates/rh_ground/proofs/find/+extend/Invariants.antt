use Rattle.std.proofs.Common.{length, ◌≡◌}
use Rattle.std.specs.List.{find}
use Rattle.rh_domain.specs.Binding.{bindings_in}
use Rattle.rh_ground.proofs.Finding.{after, first_from}
use Rattle.rh_ground.proofs.find.+extend.Given as goal

abbrev pub decreases-extend : goal.decreases-extend
decreases-extend g l = length l.params.now

-- what is found among all bindings is found with the arguments from the number on
abbrev pub invariant-loop-number : goal.invariant-loop-number
invariant-loop-number g l =
    (l.args ≡ l.initial.args)
    × (find (after (g.W.Wanted.accepts l.wanted) l.initial.args) (bindings_in l.domain l.params) ≡ first_from l.domain l.param l.others (g.W.Wanted.accepts l.wanted) l.initial.args l.number l.end)
