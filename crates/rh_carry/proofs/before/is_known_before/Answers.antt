use Rattle.std.proofs.Common.{◌/◌, get_or, ap, sym, ◌∙◌, arith}
use Rattle.rh_layout.proofs.FactBits.{none_past}
use Rattle.rh_layout.proofs.LaidWords.{found, not_found}
use Rattle.rh_carry.proofs.BitsBefore.{is_before}
use Rattle.rh_carry.proofs.before.is_known_before.Goals as goal

pub is_known_in-requires : goal.is_known_in-requires
is_known_in-requires g c =
    let ground = c.args.ground.now in
    let laid = c.index-as_slice-place.result in
    let read = c.index-as_slice-place.is ∙ ap (λ items. get_or items c.in-Some.place laid) c.as_slice.ensures.value in
    let at = found ground.file.schemas ground.program c.layout-layout.result.now (c.args.bit / 64) c.layout-layout.ensures c.in-Some.place laid (sym c.in-Some.ensures) read in
    record { some = at.wide; narrow = at.narrow; from = at.from }

pub returns-in-Some : goal.returns-in-Some
returns-in-Some g c = λ at own.
    let ground = c.args.ground.now in
    let layout = c.layout-layout.result.now in
    let laid = c.index-as_slice-place.result in
    let read = c.index-as_slice-place.is ∙ ap (λ items. get_or items c.in-Some.place laid) c.as_slice.ensures.value in
    is_before ground.file.schemas ground.program layout c.args.bit c.in-Some.place laid
    (found ground.file.schemas ground.program layout (c.args.bit / 64) c.layout-layout.ensures c.in-Some.place laid (sym c.in-Some.ensures) read)
    (g.T.BitTest.holds c.args.known.now) c.is_known_in.result c.is_known_in.ensures at own

pub returns-in-None : goal.returns-in-None
returns-in-None g c = λ at own.
    let ground = c.args.ground.now in
    let past = not_found ground.file.schemas ground.program c.layout-layout.result.now (c.args.bit / 64) c.layout-layout.ensures (sym c.in-None.ensures) in
    let below = none_past ground.file.schemas ground.program c.args.bit at own in
    absurd (omega (arith, past, below))
