-- The trees of an obligation: the terms that are always there, the hypotheses' and the goal's. They are of
-- the right sorts, and have few terms in all.
use Rattle.std.proofs.Common.{ℕ, ◌≡◌, ◌<◌, ◌+◌, ◌^◌, List, [], ◌∷◌, ◌++◌, map, length, pos, arith, length-append}
use Rattle.std.specs.List.{AllByRecursion, flat_map, range_with_len}
use Rattle.std.proofs.lemmas.List.{length-map}
use Rattle.std.proofs.lemmas.List.FromFn.{length-range_with_len}
use Rattle.std.proofs.lemmas.List.Sums.{sum_by-append, sum_by-cons}
use Rattle.rh_list.proofs.Appended.{joined}
use Rattle.rh_rule.specs.declared.rule.Form.{Form}
use Rattle.rh_rule.specs.declared.rule.Form.TheVariants.{Entry, Goto, Skip, AnyAssign, Assign, Address, Load, Compute as AComputation, Write, New, Call, If, Return}
use Rattle.rh_rule.specs.declared.rule.Rule.{Rule}
use Rattle.rh_rule.specs.declared.schema.Kind.{Kind}
use Rattle.rh_rule.specs.declared.schema.Kind.TheVariants.{Var, Const}
use Rattle.rh_rule.specs.declared.schema.Param.{Param}
use Rattle.rh_rule.specs.declared.schema.Schema.{Schema}
use Rattle.rh_rule.specs.Params.{kind_of}
use Rattle.rh_rule.specs.Ranges.{RuleNumbersFit, SchemaNumbersFit}
use Rattle.rh_rule.specs.RuleFiles.{IsRuleOf}
use Rattle.rh_term.specs.declared.term.Term.{Term}
use Rattle.rh_term.specs.declared.term.Term.TheVariants.{Num, Yes, IsNum, IsPtr}
use Rattle.rh_meaning.specs.Literal.{TreeLit, TreeClause, clause_trees, literal_trees}
use Rattle.rh_meaning.specs.Sorts.{IsSorted, tree_size}
use Rattle.rh_meaning.specs.Tree.{Tree, Leaf}
use Rattle.rh_goals.specs.Few.{AreFewClauses, trees_size}
use Rattle.rh_goals.specs.Goals.{goals}
use Rattle.rh_goals.specs.Hypotheses.{hypotheses}
use Rattle.rh_goals.proofs.RuleTrees.{all_mapped, hypotheses_sorted, one_value, zero_value}
use Rattle.rh_goals.proofs.Sizes.{hypotheses_fit, passed}
use Rattle.rh_goals.proofs.TreeSizes.{AreSmallLits, IsSmallLit, clauses_size, goals_small, hypotheses_small}
use Rattle.rh_oblig.specs.TermList.{binding_leaf, first_leaf, first_trees, leaves_of}

-- ---- of the right sorts

-- a term without parts, with its number in range
abbrev pub IsSortedLeaf : Term → Type 0
IsSortedLeaf term = IsSorted (Leaf term)

first_fits : (pattern : Form) → IsSorted (Leaf (first_leaf pattern))
first_fits (Entry param) = (tt, tt)
first_fits Goto = (tt, tt)
first_fits Skip = (tt, tt)
first_fits (AnyAssign to) = (tt, tt)
first_fits (Assign to from) = (tt, tt)
first_fits (Address to of) = (tt, tt)
first_fits (Load to from) = (tt, tt)
first_fits (AComputation to op left right) = (tt, tt)
first_fits (Write to from) = (tt, tt)
first_fits (New to) = (tt, tt)
first_fits (Call to arg) = (tt, tt)
first_fits (If cond) = (tt, tt)
first_fits (Return result) = (tt, tt)

binding_fits : (meta : ℕ) (kind : Kind) → IsSorted (Leaf (binding_leaf meta kind))
binding_fits meta Var = (tt, tt)
binding_fits meta Const = (tt, tt)

-- the terms that are always there have no parts
pub leaves_fit : (params : List Param) (pattern : Form) → AllByRecursion IsSortedLeaf (leaves_of params pattern)
leaves_fit params pattern =
    let bindings : List Term = map (λ meta. binding_leaf meta (kind_of params meta)) (range_with_len 0 (length params)) in
    let constants : List Term = Num (pos 0) ∷ Num (pos 1) ∷ IsNum ∷ IsPtr ∷ Yes ∷ [] in
    joined IsSortedLeaf (constants ++ bindings) (first_leaf pattern ∷ [])
    (joined IsSortedLeaf constants bindings (zero_value.sorted, (one_value.sorted, ((tt, tt), ((tt, tt), ((tt, tt), tt)))))
    (all_mapped IsSortedLeaf (λ meta. binding_leaf meta (kind_of params meta)) (λ meta. binding_fits meta (kind_of params meta)) (range_with_len 0 (length params))))
    (first_fits pattern, tt)

leaves_sorted : (leaves : List Term) → AllByRecursion IsSortedLeaf leaves → AllByRecursion IsSorted (map Leaf leaves)
leaves_sorted [] fit = tt
leaves_sorted (leaf ∷ leaves) fit = (fit.0, leaves_sorted leaves fit.1)

-- all trees of an obligation
pub trees_sorted : (params : List Param) (pattern : Form) (hypotheses : List TreeClause) (goal : TreeLit)
    → AllByRecursion IsSorted (flat_map clause_trees hypotheses) → AllByRecursion IsSorted (literal_trees goal) → AllByRecursion IsSorted (first_trees params pattern hypotheses goal)
trees_sorted params pattern hypotheses goal known denied =
    joined IsSorted (map Leaf (leaves_of params pattern) ++ flat_map clause_trees hypotheses) (literal_trees goal)
    (joined IsSorted (map Leaf (leaves_of params pattern)) (flat_map clause_trees hypotheses) (leaves_sorted (leaves_of params pattern) (leaves_fit params pattern)) known)
    denied

pub first_trees_sorted : (schemas : List Schema) (rule : Rule) (goal : TreeLit) → AllByRecursion SchemaNumbersFit schemas → RuleNumbersFit rule → AllByRecursion IsSorted (literal_trees goal)
    → AllByRecursion IsSorted (first_trees rule.params rule.pattern (hypotheses schemas rule) goal)
first_trees_sorted schemas rule goal known fits sorted = trees_sorted rule.params rule.pattern (hypotheses schemas rule) goal (hypotheses_sorted schemas rule known fits) sorted

-- ---- few

pub leaves_size : (leaves : List Term) → trees_size (map Leaf leaves) ≡ length leaves
leaves_size [] = omega arith
leaves_size (leaf ∷ leaves) = omega (arith, sum_by-cons tree_size (Leaf leaf) (map Leaf leaves), leaves_size leaves)

leaves_few : (params : List Param) (pattern : Form) → length (leaves_of params pattern) ≡ 6 + length params
leaves_few params pattern =
    let bindings : List Term = map (λ meta. binding_leaf meta (kind_of params meta)) (range_with_len 0 (length params)) in
    omega (arith, length-append bindings (first_leaf pattern ∷ []), length-map (range_with_len 0 (length params)) (λ meta. binding_leaf meta (kind_of params meta)), length-range_with_len 0 (length params))

-- the trees of an obligation of the rule have few terms
abbrev pub HasFewTerms : List Schema → Rule → TreeLit → Type 0
HasFewTerms schemas rule goal = trees_size (first_trees rule.params rule.pattern (hypotheses schemas rule) goal) < 2 ^ 29

module _ (schemas : List Schema) (rule : Rule) (is : IsRuleOf schemas rule) where
  few_for : (goal : TreeLit) → IsSmallLit goal → HasFewTerms schemas rule goal
  few_for goal small =
      let leaves : List Tree = map Leaf (leaves_of rule.params rule.pattern) in
      let known : List Tree = flat_map clause_trees (hypotheses schemas rule) in
      let fit : AreFewClauses (hypotheses schemas rule) = hypotheses_fit schemas rule is in
      omega (
        arith,
        sum_by-append tree_size (leaves ++ known) (literal_trees goal),
        sum_by-append tree_size leaves known,
        leaves_size (leaves_of rule.params rule.pattern),
        leaves_few rule.params rule.pattern,
        (passed schemas rule is).params,
        clauses_size (hypotheses schemas rule) (hypotheses_small schemas rule) fit.short,
        fit.few,
        small.left,
        small.right,
      )

  all_few : (goals : List TreeLit) → AreSmallLits goals → AllByRecursion (HasFewTerms schemas rule) goals
  all_few [] small = tt
  all_few (goal ∷ goals) small = (few_for goal small.0, all_few goals small.1)

  pub goals_have_few : AllByRecursion (HasFewTerms schemas rule) (goals schemas rule)
  goals_have_few = all_few (goals schemas rule) (goals_small schemas rule)
