use Rattle.std.proofs.Common.{◌+◌, ◌-◌, length, refl, ap, sym, ◌∙◌, arith}
use Rattle.std.specs.Prelude.{slice_get, slice_index_or}
use Rattle.std.proofs.lemmas.Option.{slice_get_read}
use Rattle.rh_domain.specs.Facts.{facts_over}
use Rattle.rh_domain.proofs.FactNumbers.{fact_read, first_is, none_past, one_more, whole_count}
use Rattle.rh_domain.proofs.facts.fact_at.Goals as goal

pub fact_of_schema-requires-clause-count : goal.fact_of_schema-requires-clause-count
fact_of_schema-requires-clause-count c =
    let s = c.loop-schema.schema in
    let at = slice_get_read c.args.schemas.now (length c.args.schemas.now) s c.index-schemas-schema.result refl (omega (arith, c.loop-schema-test.true, c.loop-schema.auto.schema-end)) c.index-schemas-schema.is in
    let first = first_is c.args.domain.now c.args.schemas.now c.args.firsts.now s c.requires.firsts (omega (arith, c.loop-schema-test.true, c.loop-schema.auto.schema-end)) in
    let next = first_is c.args.domain.now c.args.schemas.now c.args.firsts.now (s + 1) c.requires.firsts (omega (arith, c.loop-schema-test.true, c.loop-schema.auto.schema-end)) in
    let more = one_more c.args.domain.now c.args.schemas.now s c.index-schemas-schema.result at in
    omega (arith, first, next, more)

pub fact_of_schema-requires-clause-below : goal.fact_of_schema-requires-clause-below
fact_of_schema-requires-clause-below c =
    let first = first_is c.args.domain.now c.args.schemas.now c.args.firsts.now c.loop-schema.schema c.requires.firsts (omega (arith, c.loop-schema-test.true, c.loop-schema.auto.schema-end)) in
    omega (arith, first, c.loop-schema.invariant, c.if-number-next.true)

pub returns-then-number-next : goal.returns-then-number-next
returns-then-number-next c =
    let s = c.loop-schema.schema in
    let at = slice_get_read c.args.schemas.now (length c.args.schemas.now) s c.index-schemas-schema.result refl (omega (arith, c.loop-schema-test.true, c.loop-schema.auto.schema-end)) c.index-schemas-schema.is in
    let first = first_is c.args.domain.now c.args.schemas.now c.args.firsts.now s c.requires.firsts (omega (arith, c.loop-schema-test.true, c.loop-schema.auto.schema-end)) in
    let there = fact_read c.args.domain.now c.args.schemas.now s c.index-schemas-schema.result (c.args.number - slice_index_or c.args.firsts.now s 0) c.fact_of_schema.result at c.fact_of_schema.ensures in
    sym (ap (slice_get (facts_over c.args.domain.now c.args.schemas.now)) (omega (arith, first, c.loop-schema.invariant)) ∙ there)

pub loop-schema-preserved : goal.loop-schema-preserved
loop-schema-preserved c =
    let next = first_is c.args.domain.now c.args.schemas.now c.args.firsts.now (c.loop-schema.schema + 1) c.requires.firsts (omega (arith, c.loop-schema-test.true, c.loop-schema.auto.schema-end)) in
    omega (arith, next, c.if-number-next.false)

pub returns : goal.returns
returns c =
    let whole = whole_count c.args.domain.now c.args.schemas.now c.loop-schema.schema (omega (arith, c.loop-schema-test.false, c.loop-schema.auto.schema-end)) in
    sym (none_past c.args.domain.now c.args.schemas.now c.args.number (omega (arith, whole, c.loop-schema.invariant)))
