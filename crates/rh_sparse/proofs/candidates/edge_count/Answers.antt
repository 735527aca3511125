use Rattle.std.proofs.Common.{◌≡◌, Some, length, refl, sym, ap, ◌∙◌}
use Rattle.std.specs.Prelude.{nat_lt, slice_get}
use Rattle.std.proofs.lemmas.Option.{slice_get_read}
use Rattle.rh_sparse.proofs.EdgeSites.{counted, uncounted}
use Rattle.rh_sparse.proofs.candidates.edge_count.Goals as goal

pub returns-in-Some : goal.returns-in-Some
returns-in-Some c =
    let ground = c.args.ground.now in
    let laid = c.in-Some.laid.now in
    let read : slice_get c.layout.result.now.procs c.args.place ≡ Some laid =
    ap (λ items. slice_get items c.args.place) (sym c.as_slice.ensures.value) ∙ slice_get_read c.as_slice.result.now _ c.args.place laid refl c.in-Some.ensures.lookup.3.0 c.in-Some.ensures.lookup.1 in
    c.len.ensures ∙ counted ground.file.schemas ground.program c.layout.result.now c.args.place c.layout.ensures laid read

pub returns-in-None : goal.returns-in-None
returns-in-None c =
    let ground = c.args.ground.now in
    uncounted ground.file.schemas ground.program c.layout.result.now c.args.place c.layout.ensures
    (c.in-None.ensures.lookup.0 ∙ ap (λ items. nat_lt c.args.place (length items)) c.as_slice.ensures.value)
