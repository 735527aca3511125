use Rattle.std.proofs.Common.{◌/◌, get_or, ap, sym, ◌∙◌}
use Rattle.std.proofs.lemmas.Option.{slice_get_within}
use Rattle.rh_domain.specs.declared.fact.FactAt.{FactAt}
use Rattle.rh_layout.specs.Bits.{IsBitOf}
use Rattle.rh_layout.specs.Layout.{IsLayoutOf, edge_with}
use Rattle.rh_layout.proofs.FoundFacts.{answers_none, answers_some, asked, none_for_all, none_past_all, some_for_all}
use Rattle.rh_layout.proofs.LaidWords.{found}
use Rattle.rh_layout.proofs.layout.Layout.fact_of.Goals as goal

pub returns-in_err-place-clause-none : goal.returns-in_err-place-clause-none
returns-in_err-place-clause-none c =
    let schemas = c.args.schemas.now in
    let layout = c.args.self.now in
    none_for_all (λ procs. IsLayoutOf schemas procs layout) c.from_residual.result (λ procs. (fact : FactAt) → IsBitOf schemas procs c.args.bit fact → ⊥)
    (λ procs is. none_past_all schemas procs layout c.args.bit is c.from_residual.result (sym c.in_err-place.ensures))

pub fact_of-requires : goal.fact_of-requires
fact_of-requires c =
    let layout = c.args.self.now in
    let laid = c.index-as_slice-place.result in
    let read = c.index-as_slice-place.is ∙ ap (λ items. get_or items c.in_ok-place.place laid) c.as_slice.ensures.value in
    let at = found c.args.schemas.now c.requires.0 layout (c.args.bit / 64) c.requires.1 c.in_ok-place.place laid (sym c.in_ok-place.ensures) read in
    let by = asked c.args.schemas.now at.proc _ laid at.part in
    record {
      small = by.small;
      few = c.requires.1.few_schemas;
      firsts = by.firsts;
      some = at.wide;
      narrow = at.narrow;
      from = at.from;
      below = at.below;
      edge = slice_get_within laid.edges (edge_with laid (c.args.bit / 64)) at.edge at.edge_at;
    }

pub returns-clause-found : goal.returns-clause-found
returns-clause-found c =
    let schemas = c.args.schemas.now in
    let layout = c.args.self.now in
    let laid = c.index-as_slice-place.result in
    let place = c.in_ok-place.place in
    let read = c.index-as_slice-place.is ∙ ap (λ items. get_or items place laid) c.as_slice.ensures.value in
    some_for_all (λ procs. IsLayoutOf schemas procs layout) c.fact_of.result (λ procs fact. IsBitOf schemas procs c.args.bit fact)
    (λ procs is. answers_some schemas procs layout c.args.bit place laid (found schemas procs layout (c.args.bit / 64) is place laid (sym c.in_ok-place.ensures) read) c.fact_of.result c.fact_of.ensures)

pub returns-clause-none : goal.returns-clause-none
returns-clause-none c =
    let schemas = c.args.schemas.now in
    let layout = c.args.self.now in
    let laid = c.index-as_slice-place.result in
    let place = c.in_ok-place.place in
    let read = c.index-as_slice-place.is ∙ ap (λ items. get_or items place laid) c.as_slice.ensures.value in
    none_for_all (λ procs. IsLayoutOf schemas procs layout) c.fact_of.result (λ procs. (fact : FactAt) → IsBitOf schemas procs c.args.bit fact → ⊥)
    (λ procs is. answers_none schemas procs layout c.args.bit place laid (found schemas procs layout (c.args.bit / 64) is place laid (sym c.in_ok-place.ensures) read) c.fact_of.result c.fact_of.ensures)
