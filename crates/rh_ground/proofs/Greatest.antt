-- The greatest set that rows support is supported by them.
use Rattle.std.proofs.Common.{List}
use Rattle.rh_il.specs.declared.program.Proc.{Proc}
use Rattle.rh_rule.specs.declared.rule.Rule.{Rule}
use Rattle.rh_rule.specs.declared.rule.Ruling.{Ruling}
use Rattle.rh_domain.specs.Facts.{Known}
use Rattle.rh_ground.specs.Rows.{IsGreatest, IsSupported}

pub greatest_is_supported : (rules : List Rule) (rulings : List Ruling) (procs : List Proc) (known : Known) → IsGreatest rules rulings procs known → IsSupported rules rulings procs known
greatest_is_supported rules rulings procs known greatest fact is_known =
    let inside = (greatest fact).0 is_known in
    let row = inside.1 fact inside.2 in
    (row.0, row.1, λ k d below. (greatest _).1 (inside.0, inside.1, row.2 k d below))
