-- The same for the literals over a list of terms.
use Rattle.std.proofs.Common.{ℕ, ◌≡◌, ◌&&◌, List, [], ◌∷◌, map, refl, ap, sym, subst, ◌∙◌}
use Rattle.std.specs.List.{list_all, flat_map, AllByRecursion}
use Rattle.rh_rule.specs.declared.rule.RuleBase.{RuleBase}
use Rattle.rh_rule.specs.declared.rule.RuleBase.TheVariants.{Meta, Num, Wild}
use Rattle.rh_rule.specs.declared.schema.Kind.{Kind}
use Rattle.rh_rule.specs.declared.schema.Kind.TheVariants.{Var, Const}
use Rattle.rh_rule.specs.declared.schema.MeaningAtom.{MeaningAtom}
use Rattle.rh_rule.specs.declared.schema.MeaningAtom.TheVariants.{Same, Differ, IsNumber, IsPointer, Unaliased}
use Rattle.rh_rule.specs.declared.schema.MeaningBase.{MeaningBase}
use Rattle.rh_rule.specs.declared.schema.MeaningBase.TheVariants.{Param as AParam, Num as ALiteral}
use Rattle.rh_rule.specs.declared.schema.MeaningTerm.{MeaningTerm}
use Rattle.rh_rule.specs.declared.schema.MeaningTerm.TheVariants.{Plain, Address, Deref, Compute as AComputation}
use Rattle.rh_rule.specs.declared.schema.Param.{Param}
use Rattle.rh_rule.specs.Params.{kind_of}
use Rattle.rh_term.specs.declared.term.Term.{Term}
use Rattle.rh_term.specs.Clause.{is_true_lit}
use Rattle.rh_term.specs.Model.{Model, AStore, denotation_at, denotations, same_in}
use Rattle.rh_term.specs.Term.{IsTermList}
use Rattle.rh_meaning.specs.Atoms.{ArePut, tree_at}
use Rattle.rh_meaning.specs.Denotation.{denotation, is_true_in}
use Rattle.rh_meaning.specs.Laws.{LiteralsSayWhatHolds}
use Rattle.rh_meaning.specs.Literal.{TreeLit, literal_trees, operand, value_tree}
use Rattle.rh_meaning.specs.Meaning.{arg_at, atom_literal, meaning_operand, meaning_tree, schema_literals}
use Rattle.rh_meaning.specs.Placed.{lit_in}
use Rattle.rh_meaning.specs.Sorts.{IsIn}
use Rattle.rh_meaning.specs.Tree.{Tree}
use Rattle.rh_meaning.proofs.Denotes.{HasBareLeaves, Stands, lit_denotes, tree_denotes}
use Rattle.rh_meaning.proofs.Put.{trees_stand}
use Rattle.rh_meaning.proofs.Says.{schema_says}
use Rattle.rh_meaning.proofs.TreeAt.{IsTreeAt, store_tree_at}

-- ---- the leaves of a meaning's trees have no parts, where those of the store have none

value_bare : (store : Tree) (meta : ℕ) (kind : Kind) → HasBareLeaves store → HasBareLeaves (value_tree store meta kind)
value_bare store meta Var bare = (bare, tt)
value_bare store meta Const bare = tt

operand_bare : (params : List Param) (store : Tree) (o : RuleBase) → HasBareLeaves store → HasBareLeaves (operand params store o)
operand_bare params store (Meta meta) bare = value_bare store meta (kind_of params meta) bare
operand_bare params store (Num number) bare = tt
operand_bare params store Wild bare = tt

module _ (params : List Param) (operands : List RuleBase) (store : Tree) (bare : HasBareLeaves store) where
  base_bare : (b : MeaningBase) → HasBareLeaves (meaning_operand params operands store b)
  base_bare (AParam param) = operand_bare params store (arg_at operands param) bare
  base_bare (ALiteral number) = tt

  term_bare : (term : MeaningTerm) → HasBareLeaves (meaning_tree params operands store term)
  term_bare (Plain b) = base_bare b
  term_bare (Address param) = tt
  term_bare (Deref param) = (bare, (bare, tt))
  term_bare (AComputation op left right) = (base_bare left, base_bare right)

  atom_bare : (atom : MeaningAtom) → HasBareLeaves (atom_literal params operands store atom).left × HasBareLeaves (atom_literal params operands store atom).right
  atom_bare (Same left right) = (term_bare left, term_bare right)
  atom_bare (Differ left right) = (term_bare left, term_bare right)
  atom_bare (IsNumber term) = (term_bare term, tt)
  atom_bare (IsPointer term) = (term_bare term, tt)
  atom_bare (Unaliased param) = ((bare, tt), tt)

  module _ (model : Model) (terms : List Term) (list : IsTermList terms) where
    lits_denote : (atoms : List MeaningAtom) → AllByRecursion (IsIn terms) (flat_map literal_trees (map (atom_literal params operands store) atoms))
        → list_all (is_true_lit (same_in model terms)) (map (lit_in terms) (map (atom_literal params operands store) atoms))
        ≡ list_all (is_true_in model) (map (atom_literal params operands store) atoms)
    lits_denote [] stand = refl
    lits_denote (atom ∷ atoms) stand =
        let lit : TreeLit = atom_literal params operands store atom in
        let left : Stands model terms list lit.left = record { is_in = stand.0; bare = (atom_bare atom).0 } in
        let right : Stands model terms list lit.right = record { is_in = stand.1.0; bare = (atom_bare atom).1 } in
        ap (λ b. b && list_all (is_true_lit (same_in model terms)) (map (lit_in terms) (map (atom_literal params operands store) atoms))) (lit_denotes model terms list lit left right)
        ∙ ap (λ b. is_true_in model lit && b) (lits_denote atoms stand.1.1)

pub say_what_holds : LiteralsSayWhatHolds
say_what_holds model schema params operands args old new store placed top below cells old_list new_list is_store put passed same fit stand cells_are =
    let tree : Tree = tree_at old store in
    let at : IsTreeAt old store tree = store_tree_at old old_list store is_store in
    let lits : List TreeLit = schema_literals params operands tree schema in
    let is_put : ArePut old new lits placed = put params fit in
    let trees : List Tree = flat_map literal_trees lits in
    let there : AllByRecursion (IsIn new) trees = subst (λ terms. AllByRecursion (IsIn terms) trees) (sym is_put.is) (trees_stand old trees) in
    let store_means : denotation model tree ≡ AStore cells =
    sym (tree_denotes model old old_list tree at.stands.is_in at.bare) ∙ ap (denotation_at (denotations model old)) (sym at.stands.here) ∙ cells_are in
    ap (list_all (is_true_lit (same_in model new))) is_put.names
    ∙ lits_denote params operands tree at.bare model new new_list schema.meaning there
    ∙ schema_says model top.base params tree cells store_means schema operands args passed same fit stand
