-- Parameters and metavariables.
use Rattle.std.specs.Prelude.{ℕ, List, slice_get}
use Rattle.std.specs.Option.{option_map_or}
use Rattle.rh_rule.specs.declared.schema.Kind.{Kind}
use Rattle.rh_rule.specs.declared.schema.Kind.TheVariants.{Const}
use Rattle.rh_rule.specs.declared.schema.Param.{Param}

-- the kind of a metavariable
abbrev pub kind_of : List Param → ℕ → Kind
kind_of params meta = option_map_or (λ param. param.kind) (slice_get params meta) Const
