use Rattle.std.proofs.Common.{◌≡◌, take}
use Rattle.rh_domain.specs.Count.{fact_count}
use Rattle.rh_domain.proofs.facts.fact_count.Given as goal

-- the facts of the schemas so far
abbrev pub invariant-loop-schema : goal.invariant-loop-schema
invariant-loop-schema l = l.count ≡ fact_count l.domain (take l.schema-index l.schemas)
