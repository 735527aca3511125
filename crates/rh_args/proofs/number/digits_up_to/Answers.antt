use Rattle.std.proofs.Common.{length, ◌^◌, ◌<◌, ◌≤◌, sym, ◌∙◌, arith}
use Rattle.std.proofs.Math.Nat.{pow-le-pow_right}
use Rattle.std.proofs.lemmas.Bool.{and_parts, leb-true}
use Rattle.std.proofs.lemmas.Option.{IfSome_then}
use Rattle.rh_args.proofs.number.digits_up_to.Goals as goal

-- fewer digits make no larger number
pub returns-then-is_number-clause-bound : goal.returns-then-is_number-clause-bound
returns-then-is_number-clause-bound c =
    let text = c.args.text.now in
    let parts = and_parts _ _ (sym c.is_number.ensures ∙ c.if-is_number.true) in
    let short : length text ≤ c.args.most = leb-true _ _ (and_parts _ _ parts.0).1 in
    let ten : 0 < 10 = omega arith in
    let larger : 10 ^ length text ≤ 10 ^ c.args.most = pow-le-pow_right ten short in
    IfSome_then c.decimal.result c.decimal.ensures.bound (λ n below. omega arith)
