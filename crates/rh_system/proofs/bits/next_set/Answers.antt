use Rattle.rh_system.proofs.NextSet.{below_width, found_lowest, none_left}
use Rattle.rh_system.proofs.bits.next_set.Goals as goal

pub returns-then-left-eq0-clause-none : goal.returns-then-left-eq0-clause-none
returns-then-left-eq0-clause-none c = λ other after below. none_left c.args.word c.args.from other c.if-left-eq0.true after

pub returns-else-left-eq0-clause-within : goal.returns-else-left-eq0-clause-within
returns-else-left-eq0-clause-within c =
    let is = found_lowest c.args.word c.args.from c.ranges.word.fits c.if-left-eq0.false in
    (is.after, below_width c.args.word _ c.ranges.word.fits is.set)

pub returns-else-left-eq0-clause-found : goal.returns-else-left-eq0-clause-found
returns-else-left-eq0-clause-found c = (found_lowest c.args.word c.args.from c.ranges.word.fits c.if-left-eq0.false).set

pub returns-else-left-eq0-clause-least : goal.returns-else-left-eq0-clause-least
returns-else-left-eq0-clause-least c = (found_lowest c.args.word c.args.from c.ranges.word.fits c.if-left-eq0.false).least
