use Rattle.std.proofs.Common.{ℕ, ◌≢◌, ◌<◌, Some}
use Rattle.std.specs.Prelude.{slice_get}
use Rattle.rh_domain.proofs.domain.place_of.Given as goal

-- the number stands at no place so far
abbrev pub invariant-loop-place : goal.invariant-loop-place
invariant-loop-place l = (k : ℕ) → k < l.place → slice_get l.constants k ≢ Some l.number
