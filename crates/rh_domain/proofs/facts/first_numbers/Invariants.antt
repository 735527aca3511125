use Rattle.std.proofs.Common.{ℕ, ◌≡◌, ◌≤◌, ◌+◌, Some, length, take}
use Rattle.std.specs.Prelude.{slice_get}
use Rattle.rh_domain.specs.Count.{fact_count}
use Rattle.rh_domain.proofs.facts.first_numbers.Given as goal

-- the first numbers so far, the next one among them
abbrev pub invariant-loop-schema : goal.invariant-loop-schema
invariant-loop-schema l =
    (length l.firsts ≡ l.schema-index + 1)
    × (l.next ≡ fact_count l.domain (take l.schema-index l.schemas))
    × ((k : ℕ) → k ≤ l.schema-index → slice_get l.firsts k ≡ Some (fact_count l.domain (take k l.schemas)))
