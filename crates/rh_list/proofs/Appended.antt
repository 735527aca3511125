-- What the items of two lists have, one list after the other.
use Rattle.std.proofs.Common.{List, [], ◌∷◌, ◌++◌}
use Rattle.std.specs.List.{AllByRecursion}

pub apart : {X : Type 0} (P : X → Type 0) (a b : List X) → AllByRecursion P (a ++ b) → AllByRecursion P a × AllByRecursion P b
apart P [] b all = (tt, all)
apart P (x ∷ a) b all = let rest = apart P a b all.1 in ((all.0, rest.0), rest.1)

pub joined : {X : Type 0} (P : X → Type 0) (a b : List X) → AllByRecursion P a → AllByRecursion P b → AllByRecursion P (a ++ b)
joined P [] b front back = back
joined P (x ∷ a) b front back = (front.0, joined P a b front.1 back)

-- one item more
pub pushed : {X : Type 0} (P : X → Type 0) (a : List X) (x : X) → AllByRecursion P a → P x → AllByRecursion P (a ++ x ∷ [])
pushed P a x front this = joined P a (x ∷ []) front (this, tt)
