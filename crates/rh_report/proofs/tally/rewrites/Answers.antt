use Rattle.std.proofs.Common.{◌≡◌, ◌≤◌, length, ap, sym, ◌∙◌, arith}
use Rattle.std.proofs.lemmas.List.{drop_all}
use Rattle.std.specs.Prelude.{Some, slice_get}
use Rattle.rh_rows.specs.Known.{known_in}
use Rattle.rh_transform.proofs.Numbered.{some_within}
use Rattle.rh_report.specs.Counts.{rewrites_from}
use Rattle.rh_report.proofs.Rewrites.{rewrites_all, rewrites_more}
use Rattle.rh_report.proofs.tally.rewrites.Goals as goal
use Rattle.rh_report.proofs.tally.rewrites.Goals.{in-Some, in_default}

pub loop-place-preserved : goal.loop-place-preserved
loop-place-preserved c =
    let ground = c.args.ground.now in
    let known = known_in ground.file.schemas ground.program c.args.words.now in
    let place = c.loop-place.place in
    let few = c.loop-place.invariant.0 in
    elim c.match-proc.branch [
      | in-Some w ↦
          let at : slice_get ground.program place ≡ Some w.in-Some.proc.now = ap (λ procs. slice_get procs place) (sym c.program-program.ensures) ∙ sym w.in-Some.ensures.proc in
          let one = w.count-is in
          let here = w.from-count.ensures in
          let small = w.rewrites_in.type_inv in (
            omega (arith, few, one, here, small),
            rewrites_more ground.file ground.rulings known ground.program place w.in-Some.proc.now c.loop-place.count w.from-count.result c.match-proc.count (rewrites_from ground.file ground.rulings known 0 ground.program) at
                (here ∙ w.rewrites_in.ensures) one c.loop-place.invariant.1,
          )
      | in_default w ↦ absurd (some_within c.program-program.result.now place (omega (arith, c.loop-place-test.true, c.count-place-end.ensures.count)) w.in_default.ensures.proc)
    ]

pub returns : goal.returns
returns c =
    let ground = c.args.ground.now in
    let known = known_in ground.file.schemas ground.program c.args.words.now in
    let size = c.count-place-end.ensures.count ∙ ap length c.program-program.ensures in
    let past : length ground.program ≤ c.loop-place.place = omega (arith, c.loop-place-test.false, size) in
    rewrites_all ground.file ground.rulings known ground.program c.loop-place.place c.loop-place.count (rewrites_from ground.file ground.rulings known 0 ground.program) (drop_all c.loop-place.place ground.program past)
    c.loop-place.invariant.1
