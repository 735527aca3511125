use Rattle.std.proofs.Common.{◌≡◌, Some, None, sym, ap, ◌∙◌, arith, codes}
use Rattle.std.specs.List.{position}
use Rattle.rh_il.specs.Checks.{is_called}
use Rattle.rh_il.proofs.Passed.{passed, placed_below, placed_some}
use Rattle.rh_il.proofs.procedures.Program.main.Goals as goal

pub overflow_cast-result : goal.overflow_cast-result
overflow_cast-result c =
    let procs = c.self.inside.procs in
    let p = passed procs c.self.invariant.passes in
    let there : position (is_called (codes "main")) procs ≡ Some c.in-Some.place =
    ap (position (is_called (codes "main"))) (sym c.as_slice.ensures.value) ∙ sym c.place_of.ensures ∙ c.in-Some.is in
    omega (arith, placed_below (is_called (codes "main")) procs c.in-Some.place p.main there, p.few)

pub unreachable-requires : goal.unreachable-requires
unreachable-requires c =
    let procs = c.self.inside.procs in
    let p = passed procs c.self.invariant.passes in
    let gone : position (is_called (codes "main")) procs ≡ None =
    ap (position (is_called (codes "main"))) (sym c.as_slice.ensures.value) ∙ sym c.place_of.ensures ∙ c.in-None.is in
    placed_some (is_called (codes "main")) procs p.main gone
