use Rattle.std.proofs.Common.{◌≡◌, ◌-◌, ◌*◌, length}
use Rattle.rh_oblig.specs.TermList.{walked, closed}
use Rattle.rh_oblig.proofs.closing.close.Given as goal

abbrev pub invariant-loop-place : goal.invariant-loop-place
invariant-loop-place l = walked (4 * length l.fn.terms - l.place) l.terms l.place ≡ closed l.fn.terms
