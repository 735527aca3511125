use Rattle.std.proofs.Common.{ap, length, refl, ◌∙◌, arith}
use Rattle.std.proofs.lemmas.Option.{slice_get_read}
use Rattle.rh_domain.specs.Count.{binding_count, fact_count}
use Rattle.rh_domain.proofs.Bounds.{few_facts}
use Rattle.rh_domain.proofs.FactNumbers.{few_of_schema, one_more}
use Rattle.rh_domain.proofs.facts.fact_count.Goals as goal

pub overflow_add-count : goal.overflow_add-count
overflow_add-count c =
    let at = slice_get_read c.args.schemas.now (length c.args.schemas.now) c.loop-schema.schema-index c.schema-item.result refl (omega (arith, c.loop-schema-test.true)) c.schema-item.is in
    let few = few_of_schema c.args.domain.now c.args.schemas.now c.loop-schema.schema-index c.schema-item.result (fact_count c.args.domain.now c.args.schemas.now) at (omega arith) in
    let all = few_facts c.args.domain.now c.args.schemas.now c.requires.small c.requires.few.params_few in
    let same = c.binding_count-count.ensures ∙ ap (binding_count c.args.domain.now) c.as_slice.ensures.value in
    omega (arith, few, all, same, c.loop-schema.invariant, c.requires.few.schemas_few)

pub loop-schema-preserved : goal.loop-schema-preserved
loop-schema-preserved c =
    let at = slice_get_read c.args.schemas.now (length c.args.schemas.now) c.loop-schema.schema-index c.schema-item.result refl (omega (arith, c.loop-schema-test.true)) c.schema-item.is in
    let more = one_more c.args.domain.now c.args.schemas.now c.loop-schema.schema-index c.schema-item.result at in
    let same = c.binding_count-count.ensures ∙ ap (binding_count c.args.domain.now) c.as_slice.ensures.value in
    omega (arith, more, same, c.loop-schema.invariant)
