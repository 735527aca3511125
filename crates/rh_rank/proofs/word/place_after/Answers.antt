use Rattle.std.proofs.Common.{◌<◌, sym, subst, arith}
use Rattle.rh_rank.proofs.PlaceAfter.{at_turn}
use Rattle.rh_rank.proofs.WordRanks.{ones_all, ones_none}
use Rattle.rh_rank.proofs.word.place_after.Goals as goal

pub loop-high-init : goal.loop-high-init
loop-high-init c = record {
  apart = omega arith;
  within = omega arith;
  few = (let none = ones_none c.args.word in omega (arith, none));
  many = subst (λ n. c.args.ones < n) (sym (ones_all c.args.word c.ranges.word.fits)) c.requires;
}

pub returns-clause-set : goal.returns-clause-set
returns-clause-set c = let is = c.loop-high.invariant in (at_turn c.args.word c.args.ones _ _ is.apart (omega arith) is.few is.many).0

pub returns-clause-after : goal.returns-clause-after
returns-clause-after c = let is = c.loop-high.invariant in (at_turn c.args.word c.args.ones _ _ is.apart (omega arith) is.few is.many).1
