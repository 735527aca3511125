use Rattle.std.proofs.Common.{ℕ, ◌≡◌, ◌≢◌, ◌+◌, Some, length, refl, ap, sym, ◌∙◌, subst, arith}
use Rattle.std.specs.Prelude.{slice_get}
use Rattle.std.proofs.lemmas.Option.{slice_get_read, slice_get_within}
use Rattle.rh_rule.specs.declared.schema.Schema.{Schema}
use Rattle.rh_domain.specs.Binding.{bindings_in}
use Rattle.rh_domain.specs.Count.{binding_count}
use Rattle.rh_domain.specs.Facts.{facts_over}
use Rattle.rh_domain.proofs.FactNumbers.{fact_read, few_of_schema, first_is, not_of_schema, of_schema_at, past_all}
use Rattle.rh_domain.proofs.Joined.{number_below}
use Rattle.rh_domain.proofs.facts.number_of.Goals as goal

pub returns-then-place-schemas-clause-none : goal.returns-then-place-schemas-clause-none
returns-then-place-schemas-clause-none c = past_all c.args.domain.now c.args.schemas.now c.args.schema c.args.args.now c.if-place-schemas.true

pub number_of-requires-clause-few : goal.number_of-requires-clause-few
number_of-requires-clause-few c =
    let at = slice_get_read c.args.schemas.now (length c.args.schemas.now) c.args.schema c.index-schemas-place.result refl (omega (arith, c.if-place-schemas.false)) c.index-schemas-place.is in
    let few = few_of_schema c.args.domain.now c.args.schemas.now c.args.schema c.index-schemas-place.result 65536 at c.requires.within in
    let same = ap (binding_count c.args.domain.now) (c.as_slice.ensures.value ∙ ap (λ (s : Schema). s.params) (sym c.index-schemas-place.is)) in
    omega (arith, few, same)

pub returns-in_default-clause-none : goal.returns-in_default-clause-none
returns-in_default-clause-none c =
    let at = slice_get_read c.args.schemas.now (length c.args.schemas.now) c.args.schema c.index-schemas-place.result refl (omega (arith, c.if-place-schemas.false)) c.index-schemas-place.is in
    not_of_schema c.args.domain.now c.args.schemas.now c.args.schema c.index-schemas-place.result c.args.args.now at
    (subst (λ params. (number : ℕ) → slice_get (bindings_in c.args.domain.now params) number ≢ Some c.args.args.now) (c.as_slice.ensures.value ∙ ap (λ (s : Schema). s.params) (sym c.index-schemas-place.is)) c.in_default.ensures.none)

pub bounds-firsts-place : goal.bounds-firsts-place
bounds-firsts-place c = slice_get_within c.args.firsts.now c.args.schema _ (c.requires.firsts c.args.schema (omega (arith, c.if-place-schemas.false)))

pub overflow_add-result : goal.overflow_add-result
overflow_add-result c =
    let at = slice_get_read c.args.schemas.now (length c.args.schemas.now) c.args.schema c.index-schemas-place.result refl (omega (arith, c.if-place-schemas.false)) c.index-schemas-place.is in
    let few = few_of_schema c.args.domain.now c.args.schemas.now c.args.schema c.index-schemas-place.result 65536 at c.requires.within in
    let first = first_is c.args.domain.now c.args.schemas.now c.args.firsts.now c.args.schema c.requires.firsts (omega (arith, c.if-place-schemas.false)) in
    let below = number_below c.args.domain.now c.index-schemas-place.result.params c.in-Some.number c.args.args.now
    (subst (λ params. slice_get (bindings_in c.args.domain.now params) c.in-Some.number ≡ Some c.args.args.now) (c.as_slice.ensures.value ∙ ap (λ (s : Schema). s.params) (sym c.index-schemas-place.is)) c.in-Some.ensures.found) in
    omega (arith, few, first, below)

pub returns-clause-found : goal.returns-clause-found
returns-clause-found c =
    let at = slice_get_read c.args.schemas.now (length c.args.schemas.now) c.args.schema c.index-schemas-place.result refl (omega (arith, c.if-place-schemas.false)) c.index-schemas-place.is in
    let first = first_is c.args.domain.now c.args.schemas.now c.args.firsts.now c.args.schema c.requires.firsts (omega (arith, c.if-place-schemas.false)) in
    let found = subst (λ params. slice_get (bindings_in c.args.domain.now params) c.in-Some.number ≡ Some c.args.args.now) (c.as_slice.ensures.value ∙ ap (λ (s : Schema). s.params) (sym c.index-schemas-place.is)) c.in-Some.ensures.found in
    ap (λ n. slice_get (facts_over c.args.domain.now c.args.schemas.now) (n + c.in-Some.number)) first
    ∙ fact_read c.args.domain.now c.args.schemas.now c.args.schema c.index-schemas-place.result c.in-Some.number _ at (of_schema_at c.args.domain.now c.args.schema c.index-schemas-place.result c.in-Some.number c.args.args.now found)
