use Rattle.std.proofs.Common.{◌≡◌, length, refl, ap, sym, ◌∙◌, subst, arith}
use Rattle.std.specs.Prelude.{slice_get}
use Rattle.rh_il.specs.Checks.{IsProgram}
use Rattle.rh_rows.specs.Known.{known_in}
use Rattle.rh_transform.specs.Rewritten.{rewritten, rewritten_proc}
use Rattle.rh_transform.proofs.Numbered.{changed_next, changed_whole, some_within}
use Rattle.rh_transform.proofs.rewriting.rewrite.Goals as goal
use Rattle.rh_transform.proofs.rewriting.rewrite.Goals.{in-Some+in_ok-rewrite_proc+in_ok-push, in_default}

pub loop-place-preserved : goal.loop-place-preserved
loop-place-preserved c =
    let ground = c.args.ground.now in
    let known = known_in ground.file.schemas ground.program c.args.words.now in
    elim c.match-proc.branch [
      | in-Some+in_ok-rewrite_proc+in_ok-push w ↦
          ap (λ v. v.items) w.procs-is
          ∙ changed_next (rewritten_proc known ground.file.rules ground.rulings) ground.program c.loop-place.place w.in-Some.proc.now w.in_ok-rewrite_proc.field-0 c.loop-place.procs.items w.push.new.self.items
          (ap (λ procs. slice_get procs c.loop-place.place) (sym c.program-program.ensures) ∙ sym w.in-Some.ensures.proc) w.in_ok-rewrite_proc.ensures c.loop-place.invariant w.in_ok-push.ensures.items
      | in_default w ↦
          absurd (some_within c.program-program.result.now c.loop-place.place (omega (arith, c.loop-place-test.true, c.count-place-end.ensures.count)) w.in_default.ensures.proc)
    ]

pub checked-requires : goal.checked-requires
checked-requires c =
    let ground = c.args.ground.now in
    let known = known_in ground.file.schemas ground.program c.args.words.now in
    let size = c.count-place-end.ensures.count ∙ ap length c.program-program.ensures in
    let whole : c.loop-place.procs.items ≡ rewritten known ground.file.rules ground.rulings ground.program =
    changed_whole (rewritten_proc known ground.file.rules ground.rulings) ground.program ground.program c.loop-place.place c.loop-place.procs.items refl
    (omega (arith, c.loop-place.auto.place-end, size)) (omega (arith, c.loop-place-test.false, size)) c.loop-place.invariant in
    subst IsProgram (sym whole) (c.passes.ensures known)
