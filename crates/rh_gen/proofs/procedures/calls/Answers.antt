use Rattle.std.proofs.Common.{◌++◌, ◌∷◌, [], ap, sym, ◌∙◌, arith}
use Rattle.std.proofs.lemmas.List.FromFn.{map-range_with_len_more}
use Rattle.rh_gen.specs.Generated.{call_of}
use Rattle.rh_gen.proofs.procedures.calls.Goals as goal

pub loop-proc-preserved : goal.loop-proc-preserved
loop-proc-preserved c =
    let proc = c.loop-proc.proc in
    (omega (arith, c.loop-proc-test.true), c.in_ok-push.ensures.ok ∙ ap (λ body. body ++ call_of proc ∷ []) c.loop-proc.invariant.1 ∙ sym (map-range_with_len_more call_of 0 proc proc (omega arith)))
