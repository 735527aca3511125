use Rattle.std.proofs.Common.{◌≡◌, ◌+◌, ◌++◌, pos, replicate, vec_len, vec_capacity}
use Rattle.rh_il.specs.declared.value.Value.TheVariants.{Num}
use Rattle.rh_il_step.proofs.state.push_zeros.Given as goal

abbrev pub invariant-loop-done : goal.invariant-loop-done
invariant-loop-done l = record {
  pushed : l.cells.items ≡ l.initial.cells.items ++ replicate l._done (Num (pos 0));
  longer : vec_len l.cells ≡ vec_len l.initial.cells + l._done;
  room : vec_capacity l.cells ≡ vec_capacity l.initial.cells;
}
