-- The facts that there may be on the edges of a program.
use Rattle.std.specs.Prelude.{ℕ, Bool, List, map}
use Rattle.std.specs.List.{flat_map, enumerate_from}
use Rattle.rh_il.specs.declared.program.Edge.{Edge}
use Rattle.rh_il.specs.declared.program.Proc.{Proc}
use Rattle.rh_il.specs.Flow.{edges_of}
use Rattle.rh_rule.specs.declared.schema.Schema.{Schema}
use Rattle.rh_domain.specs.declared.domain.Domain.{Domain}
use Rattle.rh_domain.specs.declared.fact.GroundFact.{GroundFact}
use Rattle.rh_domain.specs.declared.fact.FactAt.{FactAt}
use Rattle.rh_domain.specs.Binding.{bindings_in, domain_of}

-- which facts are known on the edges of which procedures
abbrev pub Known : Type 0
Known = FactAt → Bool

abbrev pub facts_of_schema : Domain → ℕ → Schema → List GroundFact
facts_of_schema domain number schema = map (λ args. record { schema = number; args = args }) (bindings_in domain schema.params)

-- the facts over variables and constants, ordered by schema, and then by their arguments from the first: variables by
-- number, constants rising
abbrev pub facts_over : Domain → List Schema → List GroundFact
facts_over domain schemas = flat_map (λ at. facts_of_schema domain at.0 at.1) (enumerate_from 0 schemas)

-- the facts of a procedure
abbrev pub facts_of : List Schema → Proc → List GroundFact
facts_of schemas proc = facts_over (domain_of proc) schemas

abbrev pub facts_on : List Schema → Proc → ℕ → Edge → List FactAt
facts_on schemas proc number edge = map (λ fact. record { proc = number; edge = edge; fact = fact }) (facts_of schemas proc)

-- the facts on the edges of a procedure, edge by edge
abbrev pub facts_in : List Schema → Proc → ℕ → List FactAt
facts_in schemas proc number = flat_map (facts_on schemas proc number) (edges_of proc)

-- the facts on all edges of a program, procedure by procedure
abbrev pub all_facts : List Schema → List Proc → List FactAt
all_facts schemas procs = flat_map (λ at. facts_in schemas at.1 at.0) (enumerate_from 0 procs)
