-- Literals over trees, and the operands of a rule as trees.
use Rattle.std.specs.Prelude.{ℕ, Bool, true, false, List, [], ◌∷◌}
use Rattle.std.specs.List.{flat_map}
use Rattle.rh_rule.specs.declared.rule.RuleBase.{RuleBase}
use Rattle.rh_rule.specs.declared.rule.RuleBase.TheVariants.{Meta, Num as ANumber, Wild}
use Rattle.rh_rule.specs.declared.schema.Kind.{Kind}
use Rattle.rh_rule.specs.declared.schema.Kind.TheVariants.{Var as AVar, Const as AConst}
use Rattle.rh_rule.specs.declared.schema.Param.{Param}
use Rattle.rh_rule.specs.Params.{kind_of}
use Rattle.rh_term.specs.declared.term.Term.TheVariants.{Num, Cst, Addr, Any, IsNum, IsPtr, Yes}
use Rattle.rh_meaning.specs.Tree.{Tree, Leaf, Select, KindOf, Unheld}

-- that two trees are equal, or that they differ
pub record TreeLit : Type 0 where
  pub left : Tree
  pub right : Tree
  pub equal : Bool

abbrev pub equals : Tree → Tree → TreeLit
equals left right = record { left = left; right = right; equal = true }

abbrev pub differs : Tree → Tree → TreeLit
differs left right = record { left = left; right = right; equal = false }

-- the one or the other
abbrev pub pair_lit : Tree → Tree → Bool → TreeLit
pair_lit left right equal = record { left = left; right = right; equal = equal }

-- a clause over trees
abbrev pub TreeClause : Type 0
TreeClause = List TreeLit

-- the trees of a literal and of a clause
abbrev pub literal_trees : TreeLit → List Tree
literal_trees lit = lit.left ∷ lit.right ∷ []

abbrev pub clause_trees : TreeClause → List Tree
clause_trees clause = flat_map literal_trees clause

abbrev pub number_tree : Tree → TreeLit
number_tree tree = equals (KindOf tree) (Leaf IsNum)

abbrev pub pointer_tree : Tree → TreeLit
pointer_tree tree = equals (KindOf tree) (Leaf IsPtr)

abbrev pub unheld_tree : Tree → Tree → TreeLit
unheld_tree store tree = equals (Unheld store tree) (Leaf Yes)

-- the value of a metavariable of a kind: what the store holds at the variable, or the number
abbrev pub value_tree : Tree → ℕ → Kind → Tree
value_tree store meta AVar = Select store (Leaf (Addr meta))
value_tree store meta AConst = Leaf (Cst meta)

-- what a metavariable of a kind is bound to: the address of the variable, or the number
abbrev pub binding_tree : ℕ → Kind → Tree
binding_tree meta AVar = Leaf (Addr meta)
binding_tree meta AConst = Leaf (Cst meta)

-- the value of an operand over a store
abbrev pub operand : List Param → Tree → RuleBase → Tree
operand params store (Meta meta) = value_tree store meta (kind_of params meta)
operand params store (ANumber number) = Leaf (Num number)
operand params store Wild = Leaf Any
