use Rattle.std.proofs.Common.{ap, sym, ◌∙◌}
use Rattle.std.specs.Prelude.{slice_get}
use Rattle.rh_rule.specs.declared.schema.Schema.{Schema}
use Rattle.rh_rule.proofs.Passed.{schema_passed}
use Rattle.rh_lift_tests.proofs.literals.first_literals.Goals as goal

pub literals_of-requires : goal.literals_of-requires
literals_of-requires c =
    let read = c.in-Some.ensures.value ∙ ap (λ schemas. slice_get schemas 0) c.schemas.ensures.value in
    schema_passed c.args.file.now 0 c.in-Some.schema.now c.schemas.ensures.file (sym read)
