use Rattle.std.proofs.Common.{◌<◌, ◌^◌, length, arith, take, subst}
use Rattle.std.proofs.lemmas.List.{take_all}
use Rattle.std.proofs.lemmas.List.Elements.{All-more}
use Rattle.rh_term.specs.declared.clause.Clause.{Clause}
use Rattle.rh_refuter.specs.Choice.{AreNarrow}
use Rattle.rh_bench.proofs.hard.are_narrow.Goals as goal

abbrev IsNarrow : Clause → Type 0
IsNarrow clause = length clause.lits < 2 ^ 32

pub loop-clause-preserved : goal.loop-clause-preserved
loop-clause-preserved c =
    let narrow : IsNarrow c.clause-item.result = omega (arith, c.if-len.false, c.len.ensures) in
    All-more IsNarrow c.args.clauses.now c.loop-clause.clause-index c.clause-item.result c.loop-clause-test.true c.loop-clause.invariant
    (subst IsNarrow c.clause-item.is narrow)

pub returns : goal.returns
returns c = λ yes'. subst AreNarrow (take_all c.loop-clause.clause-index c.args.clauses.now c.loop-clause-test.false) c.loop-clause.invariant
