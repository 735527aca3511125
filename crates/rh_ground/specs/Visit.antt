-- Visits to all bindings that are wanted.
use Rattle.std.specs.Prelude.{◌≡◌, Bool, ◌&&◌, List, [], ◌∷◌}
use Rattle.std.specs.List.{list_any}
use Rattle.rh_domain.specs.Binding.{Binding}

-- visits to these bindings, one after another, lead from one value to the other
abbrev pub Visited : {K : Type 0} → (Binding → K → K → Type 0) → List Binding → K → K → Type 0
Visited visits [] old new = new ≡ old
Visited {K} visits (binding ∷ bindings) old new = (mid : K) × visits binding old mid × Visited visits bindings mid new

-- each wanted binding has been visited, once or more often, and no other one has: no test tells the two apart
abbrev pub HasWanted : (Binding → Bool) → List Binding → List Binding → Type 0
HasWanted accepts bindings visited = (test : Binding → Bool) → list_any test visited ≡ list_any (λ binding. accepts binding && test binding) bindings

-- visits to the wanted ones of the bindings lead from one value to the other
abbrev pub VisitsWanted : {K : Type 0} → (Binding → K → K → Type 0) → (Binding → Bool) → List Binding → K → K → Type 0
VisitsWanted visits accepts bindings old new = (visited : List Binding) × HasWanted accepts bindings visited × Visited visits visited old new
