use Rattle.std.proofs.Common.{◌≡◌, Some, None, refl, ap, sym, ◌∙◌, arith}
use Rattle.std.specs.List.{position}
use Rattle.std.specs.Prelude.{slice_get}
use Rattle.std.proofs.lemmas.Option.{slice_get_read}
use Rattle.rh_rows.specs.Known.{edge_eq}
use Rattle.rh_rows.proofs.EdgeNumbers.{found_on, missed_on, none_told, number_below}
use Rattle.rh_rows.proofs.ground.Ground.edge_number.Goals as goal
use Rattle.rh_rows.proofs.ground.Ground.edge_number.Goals.{In_ok-laid, In_ok-number}

-- the part of the layout on the procedure
read : (c : In_ok-laid) → slice_get c.args.self.now.layout.procs c.args.place ≡ Some c.in_ok-laid.laid.now
read c =
    ap (λ items. slice_get items c.args.place) (sym c.as_slice.ensures.value)
    ∙ slice_get_read c.as_slice.result.now _ c.args.place c.in_ok-laid.laid.now refl c.in_ok-laid.ensures.lookup.3.0 c.in_ok-laid.ensures.lookup.1

found : (c : In_ok-number) → position (λ other. edge_eq other c.args.edge) c.in_ok-laid.laid.now.edges ≡ Some c.in_ok-number.number
found c = ap (position (λ other. edge_eq other c.args.edge)) (sym c.as_slice-2.ensures.value) ∙ sym c.in_ok-number.ensures

pub returns-in_err-number-clause-none : goal.returns-in_err-number-clause-none
returns-in_err-number-clause-none c =
    let self = c.args.self.now in
    let laid = c.in_ok-laid.laid.now in
    let none : position (λ other. edge_eq other c.args.edge) laid.edges ≡ None = sym (c.in_err-number.ensures ∙ ap (position (λ other. edge_eq other c.args.edge)) c.as_slice-2.ensures.value) in
    none_told c.from_residual-in_err-number.result
    (missed_on self.file.schemas self.program self.layout c.args.place laid self.laid (read (goal.at.returns-in_err-number-clause-none c).In_ok-laid) c.args.edge none)

pub overflow_cast-result : goal.overflow_cast-result
overflow_cast-result c =
    let self = c.args.self.now in
    let below = number_below self.file.schemas self.program self.layout c.args.place c.in_ok-laid.laid.now self.laid (read (goal.at.overflow_cast-result c).In_ok-laid) c.args.edge c.in_ok-number.number
    (found (goal.at.overflow_cast-result c).In_ok-number) c.in_ok-proc.field-0.now (sym c.in_ok-proc.ensures.proc) c.in_ok-proc.ensures.small in
    omega (arith, below)

pub returns-clause-found : goal.returns-clause-found
returns-clause-found c =
    let self = c.args.self.now in
    found_on self.file.schemas self.program self.layout c.args.place c.in_ok-laid.laid.now self.laid (read (goal.at.returns-clause-found c).In_ok-laid) c.args.edge c.in_ok-number.number
    (found (goal.at.returns-clause-found c).In_ok-number)
