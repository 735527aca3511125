-- The list of terms of an obligation.
use Rattle.std.specs.Prelude.{◌≡◌, ℕ, zero, suc, ◌<◌, ◌+◌, ◌*◌, pos, List, [], ◌∷◌, ◌++◌, Option, Some, None, map, fold, length, slice_get}
use Rattle.std.specs.List.{AllByRecursion, range_with_len, flat_map}
use Rattle.rh_il.specs.declared.value.Op.{Op}
use Rattle.rh_il.specs.Op.{number_of}
use Rattle.rh_rule.specs.declared.rule.Form.{Form}
use Rattle.rh_rule.specs.declared.rule.Form.TheVariants.{Entry}
use Rattle.rh_rule.specs.declared.schema.Kind.{Kind as MetaKind}
use Rattle.rh_rule.specs.declared.schema.Kind.TheVariants.{Var, Const}
use Rattle.rh_rule.specs.declared.schema.Param.{Param}
use Rattle.rh_rule.specs.Params.{kind_of}
use Rattle.rh_term.specs.declared.term.Term.{Term}
use Rattle.rh_term.specs.declared.term.Term.TheVariants.{Num, Cst, Addr, Any, Fresh, Answer, Before, Start, Sel, Upd, Op as Computed, Kind, IsNum, IsPtr, Una, Yes}
use Rattle.rh_term.specs.Term.{HasParts}
use Rattle.rh_meaning.specs.Tree.{Tree, Leaf, place_of, with_term, with_tree}
use Rattle.rh_meaning.specs.Literal.{TreeLit, TreeClause, literal_trees, clause_trees}

-- what a metavariable of a kind is bound to: the address of a variable, or a number
abbrev pub binding_leaf : ℕ → MetaKind → Term
binding_leaf meta Var = Addr meta
binding_leaf meta Const = Cst meta

-- the store with which the pattern begins
abbrev pub first_leaf : Form → Term
first_leaf (Entry param) = Start
first_leaf _ = Before

-- the terms that are always there: 0 and 1, the two kinds and `Yes`, what each metavariable is bound
-- to, and the first store
abbrev pub leaves_of : List Param → Form → List Term
leaves_of params pattern =
    (Num (pos 0) ∷ Num (pos 1) ∷ IsNum ∷ IsPtr ∷ Yes ∷ [])
    ++ map (λ meta. binding_leaf meta (kind_of params meta)) (range_with_len 0 (length params)) ++ first_leaf pattern ∷ []

-- the trees of an obligation: those that are always there, the hypotheses' and the goal's
abbrev pub first_trees : List Param → Form → List TreeClause → TreeLit → List Tree
first_trees params pattern hypotheses goal = map Leaf (leaves_of params pattern) ++ flat_map clause_trees hypotheses ++ literal_trees goal

abbrev pub with_trees : List Term → List Tree → List Term
with_trees terms trees = fold with_tree terms trees

-- the number of an operator between two numbers, where there are two
abbrev pub folded : Op → Option Term → Option Term → List Term
folded op (Some (Num a)) (Some (Num b)) = Num (number_of op a b) ∷ []
folded op left right = []

-- what a store before an update holds at an address
abbrev pub read_below : Option Term → ℕ → List Term
read_below (Some (Upd store address value)) at = Sel store at ∷ []
read_below store at = []

-- that no cell of a store before an update holds a value
abbrev pub unheld_below : Option Term → ℕ → List Term
unheld_below (Some (Upd store address value)) at = Una store at ∷ []
unheld_below store at = []

-- the terms to which the term at a place leads
abbrev pub terms_from : List Term → ℕ → Term → List Term
terms_from terms place (Num number) = Kind place ∷ []
terms_from terms place (Cst meta) = Kind place ∷ []
terms_from terms place (Addr meta) = Kind place ∷ []
terms_from terms place Any = Kind place ∷ []
terms_from terms place Fresh = Kind place ∷ []
terms_from terms place Answer = Kind place ∷ []
terms_from terms place (Sel store address) = Kind place ∷ read_below (slice_get terms store) address
terms_from terms place (Computed op left right) = Kind place ∷ folded op (slice_get terms left) (slice_get terms right)
terms_from terms place (Upd store address value) = Sel store address ∷ []
terms_from terms place (Una store value) = unheld_below (slice_get terms store) value
terms_from terms place _ = []

-- the list walked from a place on for so many terms, new ones included
abbrev pub walked : ℕ → List Term → ℕ → List Term
walked zero terms place = terms
walked (suc turns) terms place =
    elim (slice_get terms place) as (λ _. List Term) [
      | None ↦ terms
      | Some term ↦ walked turns (fold with_term terms (terms_from terms place term)) (place + 1)
    ]

-- the list with all terms to which its terms lead, and those lead in turn. No term of an obligation leads
-- to more than three others, these to others among them: so the list is walked to its end
abbrev pub closed : List Term → List Term
closed terms = walked (4 * length terms) terms 0

-- the terms of the list lead to terms of the list alone
abbrev pub IsClosed : List Term → Type 0
IsClosed terms =
    (place : ℕ) (term : Term) → slice_get terms place ≡ Some term
    → AllByRecursion (λ other. place_of terms other < length terms) (terms_from terms place term)

-- terms whose parts stand in the list
abbrev pub AreFit : List Term → List Term → Type 0
AreFit terms others = AllByRecursion (HasParts terms) others

-- the list of terms of an obligation
abbrev pub term_list : List Param → Form → List TreeClause → TreeLit → List Term
term_list params pattern hypotheses goal = closed (with_trees [] (first_trees params pattern hypotheses goal))
