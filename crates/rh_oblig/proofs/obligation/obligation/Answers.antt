use Rattle.std.proofs.Common.{◌≤◌, ◌∙◌, ap, arith, length, sym, subst}
use Rattle.std.specs.List.{AllByRecursion, flat_map}
use Rattle.rh_term.specs.Clause.{are_within}
use Rattle.rh_meaning.specs.Sorts.{IsIn}
use Rattle.rh_meaning.specs.Literal.{clause_trees, literal_trees}
use Rattle.rh_meaning.specs.View.{clauses_of, lit_of}
use Rattle.rh_oblig.proofs.Bridge.{trees_in}
use Rattle.rh_oblig.specs.Obligation.{AreSmallClauses}
use Rattle.rh_oblig.proofs.Fits.{clauses_fit}
use Rattle.rh_oblig.proofs.Sizes.{clauses_small}
use Rattle.rh_oblig.proofs.obligation.obligation.Goals as goal

pub clauses-requires-clause-taken : goal.clauses-requires-clause-taken
clauses-requires-clause-taken c =
    subst (λ terms. AllByRecursion (IsIn terms) (flat_map clause_trees (clauses_of c.args.taken.now))) (sym c.in_ok-terms.ensures)
    (trees_in c.as_slice.result.now c.args.rule.now.pattern (clauses_of c.args.taken.now) (lit_of c.args.goal.now)).0

pub clauses-requires-clause-goal : goal.clauses-requires-clause-goal
clauses-requires-clause-goal c =
    subst (λ terms. AllByRecursion (IsIn terms) (literal_trees (lit_of c.args.goal.now))) (sym c.in_ok-terms.ensures)
    (trees_in c.as_slice.result.now c.args.rule.now.pattern (clauses_of c.args.taken.now) (lit_of c.args.goal.now)).1

pub invariant_of-result : goal.invariant_of-result
invariant_of-result c = record {
  within =
      ap (are_within (length c.in_ok-terms.terms)) c.in_ok-clauses.ensures
      ∙ clauses_fit c.in_ok-terms.terms c.as_slice.result.now c.args.rule.now.pattern (clauses_of c.args.taken.now) (lit_of c.args.goal.now) c.in_ok-terms.ensures c.requires.taken c.requires.goal c.len-count.ensures.list;
}

pub returns-clause-short : goal.returns-clause-short
returns-clause-short c =
    let small : length c.in_ok-terms.terms ≤ 512 = omega (arith, c.len-count.ensures.len) in
    subst AreSmallClauses (sym c.in_ok-clauses.ensures) (clauses_small c.in_ok-terms.terms (clauses_of c.args.taken.now) (lit_of c.args.goal.now) c.requires.hypotheses small)
