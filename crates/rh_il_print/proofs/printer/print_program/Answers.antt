use Rattle.std.proofs.Common.{◌≡◌, ℕ, ◌<◌, ◌≤◌, ◌++◌, List, length, sym, ap, ◌∙◌, subst, arith}
use Rattle.std.proofs.lemmas.List.{take_all}
use Rattle.std.specs.List.{flat_map}
use Rattle.rh_il_print.specs.Text.{proc_text, text_at, program_text}
use Rattle.rh_il_text.specs.Program.{IsText}
use Rattle.rh_il_print.proofs.Places.{flat_map_at}
use Rattle.rh_il_print.proofs.Again.{printed_is_text}
use Rattle.rh_il_print.proofs.printer.print_program.Goals as goal

pub loop-number-preserved : goal.loop-number-preserved
loop-number-preserved c =
    let procs = c.args.program.now in
    let below = subst (λ n. c.loop-number.number < n) c.count-number-end.ensures.count c.loop-number-test.true in
    c.in_ok-push_proc_at.ensures ∙ ap (λ l. l ++ text_at procs c.loop-number.number) c.loop-number.invariant
    ∙ sym (flat_map_at (proc_text procs) procs c.loop-number.number below)

pub returns-clause-again : goal.returns-clause-again
returns-clause-again c =
    let procs = c.args.program.now in
    let is = c.count-number-end.ensures.program in
    let all : length procs ≤ c.loop-number.number = omega (arith, c.count-number-end.ensures.count, c.loop-number-test.false) in
    let text : c.loop-number.out.items ≡ program_text procs = c.loop-number.invariant ∙ ap (flat_map (proc_text procs)) (take_all c.loop-number.number procs all) in
    subst (λ (bytes : List ℕ). IsText bytes procs) (sym text) (printed_is_text procs is.names is.passes c.numbers_fit.ensures)
