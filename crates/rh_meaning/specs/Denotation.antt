-- What trees stand for in a model, and which literals and clauses are true in it.
use Rattle.std.specs.Prelude.{Bool, not, List, [], if◌then◌else◌}
use Rattle.std.specs.List.{list_any, list_all}
use Rattle.rh_il.specs.Op.{total}
use Rattle.rh_term.specs.Model.{Model, Denotation, AValue, AStore, AKind, AnAnswer, alike, is_number, value_of, store_of, denotation_in}
use Rattle.rh_term.specs.Store.{is_unheld, select, update}
use Rattle.rh_meaning.specs.Tree.{Tree, Leaf, Select, Update, Compute, KindOf, Unheld}
use Rattle.rh_meaning.specs.Literal.{TreeLit, TreeClause}

-- what a tree stands for in a model
abbrev pub denotation : Model → Tree → Denotation
denotation model (Leaf term) = denotation_in model [] term
denotation model (Select store address) = AValue (select (store_of (denotation model store)) (value_of (denotation model address)))
denotation model (Update store address value) =
    AStore (update (store_of (denotation model store)) (value_of (denotation model address)) (value_of (denotation model value)))
denotation model (Compute op left right) = AValue (total op (value_of (denotation model left)) (value_of (denotation model right)))
denotation model (KindOf value) = AKind (is_number (value_of (denotation model value)))
denotation model (Unheld store value) = AnAnswer (is_unheld (store_of (denotation model store)) (value_of (denotation model value)))

abbrev pub are_alike : Model → TreeLit → Bool
are_alike model lit = alike (denotation model lit.left) (denotation model lit.right)

abbrev pub is_true_in : Model → TreeLit → Bool
is_true_in model lit = if lit.equal then are_alike model lit else not (are_alike model lit)

-- each of the clauses has a true literal
abbrev pub are_true_in : Model → List TreeClause → Bool
are_true_in model clauses = list_all (λ clause. list_any (is_true_in model) clause) clauses
