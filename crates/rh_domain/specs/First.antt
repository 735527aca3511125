-- Where the facts of each schema begin.
use Rattle.std.specs.Prelude.{ℕ, ◌≡◌, ◌≤◌, List, Some, length, slice_get, take}
use Rattle.rh_rule.specs.declared.schema.Schema.{Schema}
use Rattle.rh_domain.specs.declared.domain.Domain.{Domain}
use Rattle.rh_domain.specs.Count.{fact_count}

-- for each schema the number of its first fact, and at the end how many facts there are
abbrev pub AreFirsts : Domain → List Schema → List ℕ → Type 0
AreFirsts domain schemas firsts = (k : ℕ) → k ≤ length schemas → slice_get firsts k ≡ Some (fact_count domain (take k schemas))
