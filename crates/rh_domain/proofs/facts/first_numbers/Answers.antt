use Rattle.std.proofs.Common.{◌≡◌, ◌+◌, ◌∷◌, [], Some, take, ap, length, refl, sym, ◌∙◌, subst, arith, ℕ, List, ◌≤◌}
use Rattle.std.proofs.Math.ListN.{length-append}
use Rattle.std.proofs.lemmas.Option.{slice_get_read}
use Rattle.std.specs.Prelude.{slice_get}
use Rattle.rh_domain.specs.Count.{binding_count, fact_count}
use Rattle.rh_domain.proofs.FactNumbers.{few_of_schema, one_more, pushed}
use Rattle.rh_domain.proofs.facts.first_numbers.Goals as goal

pub overflow_cast-next : goal.overflow_cast-next
overflow_cast-next c =
    let at = slice_get_read c.args.schemas.now (length c.args.schemas.now) c.loop-schema.schema-index c.schema-item.result refl (omega (arith, c.loop-schema-test.true)) c.schema-item.is in
    let few = few_of_schema c.args.domain.now c.args.schemas.now c.loop-schema.schema-index c.schema-item.result 65536 at c.requires.within in
    let same = c.binding_count.ensures ∙ ap (binding_count c.args.domain.now) c.as_slice.ensures.value in
    omega (arith, few, same)

pub overflow_add-next : goal.overflow_add-next
overflow_add-next c =
    let at = slice_get_read c.args.schemas.now (length c.args.schemas.now) c.loop-schema.schema-index c.schema-item.result refl (omega (arith, c.loop-schema-test.true)) c.schema-item.is in
    let few = few_of_schema c.args.domain.now c.args.schemas.now c.loop-schema.schema-index c.schema-item.result 65536 at c.requires.within in
    let same = c.binding_count.ensures ∙ ap (binding_count c.args.domain.now) c.as_slice.ensures.value in
    omega (arith, few, same, c.loop-schema.invariant.1)

pub loop-schema-preserved : goal.loop-schema-preserved
loop-schema-preserved c =
    let i = c.loop-schema.schema-index in
    let at = slice_get_read c.args.schemas.now (length c.args.schemas.now) i c.schema-item.result refl (omega (arith, c.loop-schema-test.true)) c.schema-item.is in
    let more = one_more c.args.domain.now c.args.schemas.now i c.schema-item.result at in
    let same = c.binding_count.ensures ∙ ap (binding_count c.args.domain.now) c.as_slice.ensures.value in
    let next : c.loop-schema.next + c.binding_count.result ≡ fact_count c.args.domain.now (take (i + 1) c.args.schemas.now) = omega (arith, more, same, c.loop-schema.invariant.1) in
    let size = length-append c.loop-schema.firsts ((c.loop-schema.next + c.binding_count.result) ∷ []) in
    let whole = ap length c.in_ok-push-2.ensures.ok in (
      omega (arith, size, whole, c.loop-schema.invariant.0),
      next,
      subst (λ (firsts : List ℕ). (k : ℕ) → k ≤ i + 1 → slice_get firsts k ≡ Some (fact_count c.args.domain.now (take k c.args.schemas.now))) (sym c.in_ok-push-2.ensures.ok)
          (pushed c.loop-schema.firsts i (c.loop-schema.next + c.binding_count.result) (λ k. fact_count c.args.domain.now (take k c.args.schemas.now)) c.loop-schema.invariant.0 next c.loop-schema.invariant.2),
    )
