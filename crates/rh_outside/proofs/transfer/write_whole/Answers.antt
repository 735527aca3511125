use Rattle.std.proofs.Common.{ℕ, ◌≤◌, ◌-◌, List, length, take, drop, ap, ◌∙◌, arith}
use Rattle.std.proofs.lemmas.List.{take_rest, length-drop}
use Rattle.rh_outside.specs.Writing.{appended}
use Rattle.rh_outside.proofs.Transfers.{written_more}
use Rattle.rh_outside.proofs.transfer.write_whole.Goals as goal

pub loop-taken-preserved : goal.loop-taken-preserved
loop-taken-preserved g c =
    let bytes : List ℕ = c.args.bytes.now in
    let taken : ℕ = c.loop-taken.taken in
    let count : ℕ = c.in-Ok.count in
    record {
      within = let within : count ≤ length bytes - taken = rw (take_rest, length-drop) at c.in-Ok.ensures.within in omega arith;
      written = c.in-Ok.ensures.appends ∙ ap (λ xs. appended (g.K.Sink.written c.loop-taken.sink) (take count xs)) (take_rest bytes taken) ∙ ap (λ w. appended w (take count (drop taken bytes))) c.loop-taken.invariant.written ∙ written_more _ bytes taken count;
      never_falls = omega (arith, c.write.ensures.never_falls);
    }
