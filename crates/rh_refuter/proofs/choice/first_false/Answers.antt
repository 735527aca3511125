use Rattle.std.proofs.Common.{◌<◌, length, map, arith, sym, ◌∙◌}
use Rattle.std.proofs.lemmas.List.{length-map}
use Rattle.rh_term.specs.declared.clause.Clause.{Clause}
use Rattle.rh_term.specs.declared.computed.Triple.{Triple}
use Rattle.rh_term.specs.Computed.{clause_with}
use Rattle.rh_refuter.proofs.Adding.{still_true}
use Rattle.rh_refuter.proofs.Choosing.{false_within}
use Rattle.rh_refuter.proofs.choice.first_false.Goals as goal

pub loop-at-preserved : goal.loop-at-preserved
loop-at-preserved c =
    still_true c.args.labels.now (clause_with c.args.operation) c.args.triples.now c.loop-at.at _ c.loop-at-test.true
    (sym c.is_computed.ensures ∙ c.if-not-is_computed.false) c.loop-at.invariant

pub returns-clause-none : goal.returns-clause-none
returns-clause-none c = λ number f.
    let triples = c.args.triples.now in
    let within : number < length (map (clause_with c.args.operation) triples) = false_within c.args.labels.now _ number f in
    c.loop-at.invariant number (omega (arith, within, length-map triples (clause_with c.args.operation), c.loop-at-test.false)) f
