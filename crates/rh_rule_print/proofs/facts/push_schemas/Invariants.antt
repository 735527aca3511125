use Rattle.std.proofs.Common.{◌≡◌, ◌++◌, take}
use Rattle.std.specs.List.{flat_map}
use Rattle.rh_rule_print.specs.Text.{schema_text}
use Rattle.rh_rule_print.proofs.facts.push_schemas.Given as goal

abbrev pub invariant-loop-schema : goal.invariant-loop-schema
invariant-loop-schema l =
    l.out.items ≡ l.initial.out.items ++ flat_map schema_text (take l.schema-index l.schemas)
