use Rattle.std.proofs.Common.{◌≡◌, replicate}
use Rattle.rh_core.specs.State.{newcomer}
use Rattle.rh_core.proofs.pure.Core.new.Given as goal

abbrev pub invariant-loop : goal.invariant-loop
invariant-loop g l = l.all.items ≡ replicate l.counter (newcomer l.words.items)
