use Rattle.std.proofs.Common.{◌≡◌, ◌++◌, drop}
use Rattle.rh_rank.specs.Union.{united}
use Rattle.rh_rank.proofs.union.union_of.Given as goal

-- with the words that are left, all are there
abbrev pub invariant-loop-one : goal.invariant-loop-one
invariant-loop-one l = l.words.items ++ united (drop l.one-index l.ones) l.left ≡ united l.ones l.fn.others
