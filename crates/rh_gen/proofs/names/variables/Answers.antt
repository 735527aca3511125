use Rattle.std.proofs.Common.{◌≡◌, ◌++◌, ◌∷◌, [], map, ap, sym, ◌∙◌, arith}
use Rattle.std.proofs.lemmas.List.FromFn.{map-range_with_len_more}
use Rattle.std.specs.List.{range_with_len}
use Rattle.rh_gen.specs.Generated.{numbered, variables}
use Rattle.rh_gen.proofs.names.variables.Goals as goal

pub loop-number-preserved : goal.loop-number-preserved
loop-number-preserved c =
    let number = c.loop-number.number in
    (omega (arith, c.loop-number-test.true), c.in_ok-push.ensures.ok ∙ (λ i. c.loop-number.invariant.1 i ++ c.in_ok-numbered.ensures i ∷ []) ∙ sym (map-range_with_len_more (numbered 118) 0 number number (omega arith)))

pub returns : goal.returns
unfolding variables
returns c =
    let all : c.loop-number.number ≡ 8 = omega (arith, c.loop-number.invariant.0, c.loop-number-test.false) in
    c.loop-number.invariant.1 ∙ ap (λ n. map (numbered 118) (range_with_len 0 n)) all
