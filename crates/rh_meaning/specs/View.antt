-- The trees and literals of the code as trees and literals.
use Rattle.std.specs.Prelude.{List, map}
use Rattle.rh_meaning.specs.declared.literal.TreeLit.{TreeLit as BuiltLit}
use Rattle.rh_meaning.specs.declared.literal.TreeClause.{TreeClause as BuiltClause}
use Rattle.rh_meaning.specs.Literal.{TreeLit, TreeClause}
use Rattle.rh_meaning.specs.declared.tree.Tree.{Tree as Built, Leaf as Leaf', Select', Update', Compute', KindOf', Unheld'}
use Rattle.rh_meaning.specs.Tree.{Tree, Leaf, Select, Update, Compute, KindOf, Unheld}

abbrev pub tree_of : Built → Tree
tree_of (Leaf' term) = Leaf term
tree_of (Select' p store q address) = Select (tree_of store) (tree_of address)
tree_of (Update' p store q address r value) = Update (tree_of store) (tree_of address) (tree_of value)
tree_of (Compute' op p left q right) = Compute op (tree_of left) (tree_of right)
tree_of (KindOf' p value) = KindOf (tree_of value)
tree_of (Unheld' p store q value) = Unheld (tree_of store) (tree_of value)

abbrev pub lit_of : BuiltLit → TreeLit
lit_of lit = record { left = tree_of lit.left; right = tree_of lit.right; equal = lit.equal }

abbrev pub lits_of : List BuiltLit → List TreeLit
lits_of lits = map lit_of lits

abbrev pub clauses_of : List BuiltClause → List TreeClause
clauses_of clauses = map (λ clause. lits_of clause.lits.items) clauses
