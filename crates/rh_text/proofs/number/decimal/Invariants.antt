use Rattle.std.proofs.Common.{◌≡◌, ◌^◌, ◌<◌, ◌≤◌, take}
use Rattle.rh_text.specs.Pieces.{decimal_value}
use Rattle.rh_text.proofs.number.decimal.Given as goal

abbrev pub invariant-loop-digit : goal.invariant-loop-digit
invariant-loop-digit l = record {
  told : l.value ≡ decimal_value (take l.digit-index l.digits);
  small : l.value ≤ 2 ^ 63;
  bound : l.value < 10 ^ l.digit-index;
}
