use Rattle.std.proofs.Common.{◌≡◌, ◌++◌, drop}
use Rattle.rh_carry.specs.Carry.{is_asked, only}
use Rattle.rh_carry.proofs.rulings.rulings_where.Given as goal

-- with the rulings on the rules that are left, all are kept
abbrev pub invariant-loop-rule : goal.invariant-loop-rule
invariant-loop-rule l = l.kept.items ++ only (is_asked l.carrying) (drop l.rule-index l.rules) l.left ≡ only (is_asked l.carrying) l.rules l.fn.rulings
