use Rattle.rh_rule_print.specs.Text.{schema_text}
use Rattle.rh_rule_print.proofs.Pieces.{added}
use Rattle.rh_rule_print.proofs.facts.push_schemas.Goals as goal

pub loop-schema-preserved : goal.loop-schema-preserved
loop-schema-preserved c =
    added schema_text c.args.schemas.now c.loop-schema.schema-index c.schema-item.result c.args.out.now.items c.loop-schema.out.items _ c.schema-item.is c.loop-schema-test.true c.loop-schema.invariant c.in_ok-push_schema.ensures
