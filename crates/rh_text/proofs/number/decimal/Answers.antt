use Rattle.std.proofs.Common.{◌+◌, arith}
use Rattle.rh_text.proofs.DecimalLemmas.{decimal_more, decimal_take-le, digit_of_digits, decimal_bound, over_limit}
use Rattle.rh_text.proofs.number.decimal.Goals as goal

pub returns-then-value-clause-value : goal.returns-then-value-clause-value
returns-then-value-clause-value c =
    let ds = c.args.digits.now in
    let i = c.loop-digit.digit-index in
    over_limit _ (omega (arith, decimal_more ds i c.loop-digit-test.true, decimal_take-le ds (i + 1), c.loop-digit.invariant.told, c.from.ensures))

pub loop-digit-preserved : goal.loop-digit-preserved
loop-digit-preserved c = record {
  told = omega (arith, decimal_more c.args.digits.now c.loop-digit.digit-index c.loop-digit-test.true, c.loop-digit.invariant.told, c.from.ensures);
  small = omega arith;
  bound = decimal_bound c.loop-digit.value c.from.result c.loop-digit.digit-index c.loop-digit.invariant.bound (omega (arith, digit_of_digits c.args.digits.now c.loop-digit.digit-index c.requires c.loop-digit-test.true, c.from.ensures));
}
