use Rattle.std.proofs.Common.{◌≤◌, take}
use Rattle.rh_domain.specs.Count.{fact_count}
use Rattle.rh_domain.proofs.facts.fact_at.Given as goal

-- the fact is none of the schemas so far
abbrev pub invariant-loop-schema : goal.invariant-loop-schema
invariant-loop-schema l = fact_count l.domain (take l.schema l.schemas) ≤ l.number
