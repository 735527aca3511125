-- What a pass over the answers has found.
use Rattle.std.proofs.Common.{◌≡◌, List, [], ◌∷◌, ◌++◌, map, Ok, Err, Some, ap, sym, ◌∙◌}
use Rattle.std.specs.Iterator.{Yields}
use Rattle.std.specs.Vec.Iter.{into_iter_items, into_iter_steps}
use Rattle.std.specs.declared.vec.IntoIter.{IntoIter}
use Rattle.rh_log.specs.declared.log.Admission.{Admission}
use Rattle.rh_admit.specs.declared.all.AdmitFault.{AdmitFault}
use Rattle.rh_admit.specs.Rules.{Answer, IsFirstFault}

-- the items that an iterator has given, and those that it has yet to give
given_first : {X Z : Type 0} (s : IntoIter X Z) (given : List X) (t : IntoIter X Z) → Yields into_iter_steps s given t → into_iter_items s ≡ given ++ into_iter_items t
given_first s [] t yields = ap into_iter_items yields
given_first s (x ∷ given) t yields = yields.1.0 ∙ ap (λ others. x ∷ others) (given_first yields.0 given t yields.2)

-- a pass that has found admissions alone comes to a fault
pub fault_next : {Z : Type 0} (answers given : List Answer) (made : List Admission) (s t u : IntoIter Answer Z) (fault told : AdmitFault) → into_iter_items s ≡ answers
    → Yields into_iter_steps s given t → given ≡ map Ok made → into_iter_steps t (Some (Err fault)) u → fault ≡ told → IsFirstFault answers told
fault_next answers given made s t u fault told whole yields all step same = record {
  before = made;
  after = into_iter_items u;
  parts = sym whole ∙ given_first s given t yields ∙ ap (λ (others : List Answer). given ++ others) step.0
      ∙ (λ i. all i ++ Err (same i) ∷ into_iter_items u);
}
