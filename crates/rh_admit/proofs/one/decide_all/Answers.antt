use Rattle.std.proofs.Common.{◌+◌, sym, subst}
use Rattle.rh_refuter.specs.Choice.{IsDecided, IsFound}
use Rattle.rh_oblig.specs.Obligation.{IsSmall}
use Rattle.rh_admit.proofs.Deciding.{AreClosed, closed_more, part_at, part_of}
use Rattle.rh_admit.proofs.one.decide_all.Goals as goal

pub returns-in-Open-clause-kept : goal.returns-in-Open-clause-kept
returns-in-Open-clause-kept c =
    let item = c.index-obligations-number.result in (
      part_of item,
      part_at c.args.obligations.now c.loop-number.number item c.loop-number-test.true c.index-obligations-number.is,
      subst (IsFound item.terms item.clauses) c.in-Open.is c.in_ok-log.ensures.found,
    )

pub returns-in-Open-clause-decided : goal.returns-in-Open-clause-decided
returns-in-Open-clause-decided c =
    let item = c.index-obligations-number.result in (
      part_of item,
      part_at c.args.obligations.now c.loop-number.number item c.loop-number-test.true c.index-obligations-number.is,
      subst (IsDecided item.terms item.clauses) c.in-Open.is c.in_ok-log.ensures.decided,
      c.loop-number.invariant.shut,
    )

pub loop-number-preserved : goal.loop-number-preserved
loop-number-preserved c =
    let item = c.index-obligations-number.result in
    subst (AreClosed c.args.obligations.now (c.loop-number.number + 1)) (sym c.in_ok-push-in-Closed.ensures.ok)
    (closed_more c.args.obligations.now c.loop-number.number item c.loop-number.logs c.in-Closed.log c.loop-number-test.true c.index-obligations-number.is c.loop-number.invariant
    (subst (IsFound item.terms item.clauses) c.in-Closed.is c.in_ok-log.ensures.found)
    (subst (IsDecided item.terms item.clauses) c.in-Closed.is c.in_ok-log.ensures.decided).1)

pub refute-requires-clause-few : goal.refute-requires-clause-few
refute-requires-clause-few c =
    let item = c.index-obligations-number.result in
    (subst IsSmall (sym c.index-obligations-number.is) (c.requires.small c.loop-number.number item c.loop-number-test.true)).few

pub refute-requires-clause-narrow : goal.refute-requires-clause-narrow
refute-requires-clause-narrow c =
    let item = c.index-obligations-number.result in
    (subst IsSmall (sym c.index-obligations-number.is) (c.requires.small c.loop-number.number item c.loop-number-test.true)).narrow
