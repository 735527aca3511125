use Rattle.std.proofs.Common.{ℕ, ◌≡◌, ◌+◌, ◌<◌, Bool, length, refl, ap, sym, ◌∙◌, arith}
use Rattle.std.specs.Prelude.{if◌then◌else◌}
use Rattle.rh_list.proofs.AtPlace.{read_at}
use Rattle.rh_rows.specs.Known.{known_in}
use Rattle.rh_report.specs.Counts.{counted, is_rewritten}
use Rattle.rh_report.proofs.Counted.{counted_one}
use Rattle.rh_report.proofs.tally.rewrites_in.Goals as goal
use Rattle.rh_report.proofs.tally.rewrites_in.Goals.{then-is_rewritten, else-is_rewritten}

pub loop-number-init : goal.loop-number-init
unfolding counted
loop-number-init c = (omega arith, refl)

pub loop-number-preserved : goal.loop-number-preserved
loop-number-preserved c =
    let ground = c.args.ground.now in
    let proc = c.args.proc.now in
    let number = c.loop-number.number in
    let test : ℕ → Bool = is_rewritten ground.file ground.rulings (known_in ground.file.schemas ground.program c.args.words.now) c.args.place proc in
    let below : number < length proc.body = omega (arith, c.loop-number-test.true, c.len-number-end.ensures) in
    let there = read_at proc.body number below in
    let is : c.is_rewritten.result ≡ test number = c.is_rewritten.ensures proc there.0 c.requires.stands there.1 in
    let few = c.loop-number.invariant.0 in
    let none : counted test 0 number ≡ counted test 0 number + 0 = omega arith in
    elim c.if-is_rewritten.branch [
      | then-is_rewritten w ↦
          let one = w.count-is in
          (omega (arith, few, one), one ∙ ap (λ n. n + 1) c.loop-number.invariant.1 ∙ ap (λ b. counted test 0 number + (if b then 1 else 0)) (sym w.if-is_rewritten.true ∙ is) ∙ sym (counted_one test number))
      | else-is_rewritten w ↦
          let same = w.count-is in
          (omega (arith, few, same), same ∙ c.loop-number.invariant.1 ∙ none ∙ ap (λ b. counted test 0 number + (if b then 1 else 0)) (sym w.if-is_rewritten.false ∙ is) ∙ sym (counted_one test number))
    ]
