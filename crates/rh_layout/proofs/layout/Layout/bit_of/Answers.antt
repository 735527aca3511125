use Rattle.std.proofs.Common.{ℕ, ◌≡◌, Some, refl, ap, sym, ◌∙◌}
use Rattle.std.specs.Prelude.{slice_get}
use Rattle.std.proofs.lemmas.Option.{slice_get_read}
use Rattle.rh_domain.specs.declared.fact.GroundFact.{GroundFact}
use Rattle.rh_layout.specs.Layout.{IsBitOn, IsLayoutOf}
use Rattle.rh_layout.proofs.FoundFacts.{asked, none_for_all, some_for_all}
use Rattle.rh_layout.proofs.FoundBits.{bit_found, bit_none, part_on}
use Rattle.rh_layout.proofs.layout.Layout.bit_of.Goals as goal

pub bit_of-requires : goal.bit_of-requires
bit_of-requires c =
    let read : slice_get c.args.self.now.procs c.args.proc ≡ Some c.in_ok-laid.laid.now = ap (λ items. slice_get items c.args.proc) (sym c.as_slice.ensures.value) ∙ slice_get_read c.as_slice.result.now _ c.args.proc c.in_ok-laid.laid.now refl c.in_ok-laid.ensures.lookup.3.0 c.in_ok-laid.ensures.lookup.1 in
    let at = part_on c.args.schemas.now c.requires.0 c.args.self.now c.args.proc c.in_ok-laid.laid.now c.requires.1 read in
    let by = asked c.args.schemas.now at.proc _ c.in_ok-laid.laid.now at.part in
    record { small = by.small; within = at.within; firsts = by.firsts; room = at.room }

pub returns-clause-found : goal.returns-clause-found
returns-clause-found c =
    let schemas = c.args.schemas.now in
    let layout = c.args.self.now in
    let laid = c.in_ok-laid.laid.now in
    let fact : GroundFact = record { schema = c.args.schema; args = c.args.args.now } in
    let read : slice_get layout.procs c.args.proc ≡ Some laid = ap (λ items. slice_get items c.args.proc) (sym c.as_slice.ensures.value) ∙ slice_get_read c.as_slice.result.now _ c.args.proc c.in_ok-laid.laid.now refl c.in_ok-laid.ensures.lookup.3.0 c.in_ok-laid.ensures.lookup.1 in
    some_for_all (λ procs. IsLayoutOf schemas procs layout) c.bit_of.result (λ procs bit. IsBitOn schemas procs c.args.proc c.args.edge fact bit)
    (λ procs is. bit_found schemas procs layout c.args.proc laid (part_on schemas procs layout c.args.proc laid is read) c.args.edge fact c.bit_of.result c.bit_of.ensures.edge c.bit_of.ensures.found)

pub returns-clause-none : goal.returns-clause-none
returns-clause-none c =
    let schemas = c.args.schemas.now in
    let layout = c.args.self.now in
    let laid = c.in_ok-laid.laid.now in
    let fact : GroundFact = record { schema = c.args.schema; args = c.args.args.now } in
    let read : slice_get layout.procs c.args.proc ≡ Some laid = ap (λ items. slice_get items c.args.proc) (sym c.as_slice.ensures.value) ∙ slice_get_read c.as_slice.result.now _ c.args.proc c.in_ok-laid.laid.now refl c.in_ok-laid.ensures.lookup.3.0 c.in_ok-laid.ensures.lookup.1 in
    none_for_all (λ procs. IsLayoutOf schemas procs layout) c.bit_of.result (λ procs. (bit : ℕ) → IsBitOn schemas procs c.args.proc c.args.edge fact bit → ⊥)
    (λ procs is. bit_none schemas procs layout c.args.proc laid (part_on schemas procs layout c.args.proc laid is read) c.args.edge fact c.bit_of.result c.bit_of.ensures.none)
