use Rattle.std.proofs.Common.{◌≡◌, ◌<◌, ◌≤◌, ◌^◌, ◌++◌, [], ◌∷◌, List, Err, map, length, take, get_or, sym, subst, ap, arith, ◌∙◌}
use Rattle.std.specs.List.{All, AllByRecursion, flat_map}
use Rattle.std.proofs.lemmas.List.Elements.{All-push}
use Rattle.std.proofs.lemmas.List.{map-append}
use Rattle.rh_term.specs.declared.obligation.Obligation.{Obligation}
use Rattle.rh_term.specs.declared.term.Term.{Term}
use Rattle.rh_term.specs.declared.clause.Clause.{Clause}
use Rattle.rh_meaning.specs.declared.literal.TreeLit.{TreeLit as BuiltLit}
use Rattle.rh_meaning.specs.declared.literal.TreeClause.{TreeClause as BuiltClause}
use Rattle.rh_meaning.specs.Literal.{TreeLit, TreeClause, clause_trees, literal_trees}
use Rattle.rh_meaning.specs.Sorts.{IsSorted}
use Rattle.rh_meaning.specs.View.{clauses_of, lit_of, lits_of}
use Rattle.rh_oblig.specs.declared.obligation.ObligFault.TheVariants.{TooManyTerms}
use Rattle.rh_goals.specs.Goals.{goals as goals_of}
use Rattle.rh_goals.specs.Hypotheses.{hypotheses}
use Rattle.rh_oblig.specs.Obligation.{IsSmall, first_excess, parts_of, terms_of}
use Rattle.rh_goals.specs.Few.{AreFewClauses, trees_size}
use Rattle.rh_oblig.specs.TermList.{first_trees, term_list}
use Rattle.rh_oblig.proofs.Each.{at_goal, err_is, excess_more, part_for, part_is, parts_more, too_many_at}
use Rattle.rh_goals.proofs.RuleTrees.{goals_sorted, hypotheses_sorted}
use Rattle.rh_goals.proofs.Sizes.{hypotheses_fit, passed}
use Rattle.rh_oblig.proofs.Sound.{rule_numbers}
use Rattle.rh_oblig.proofs.Leaves.{HasFewTerms, goals_have_few}
use Rattle.rh_oblig.proofs.obligation.obligations_over.Goals as goal

abbrev Part : Type 0
Part = List Term × List Clause

abbrev part_of : Obligation → Part
part_of obligation = (obligation.terms, obligation.clauses)

pub hypotheses-requires : goal.hypotheses-requires
hypotheses-requires c = omega (arith, (passed c.args.schemas.now c.args.rule.now c.requires).params)

pub obligation-requires-clause-few : goal.obligation-requires-clause-few
obligation-requires-clause-few c = omega (arith, (passed c.args.schemas.now c.args.rule.now c.requires).params)

pub obligation-requires-clause-hypotheses : goal.obligation-requires-clause-hypotheses
obligation-requires-clause-hypotheses c =
    let known : clauses_of c.as_slice.result.now ≡ hypotheses c.args.schemas.now c.args.rule.now =
    ap (λ (clauses : List BuiltClause). clauses_of clauses) c.as_slice.ensures.value ∙ c.in_ok-taken.ensures in
    subst AreFewClauses (sym known) (hypotheses_fit c.args.schemas.now c.args.rule.now c.requires)

pub obligation-requires-clause-taken : goal.obligation-requires-clause-taken
obligation-requires-clause-taken c =
    let known : clauses_of c.as_slice.result.now ≡ hypotheses c.args.schemas.now c.args.rule.now =
    ap (λ (clauses : List BuiltClause). clauses_of clauses) c.as_slice.ensures.value ∙ c.in_ok-taken.ensures in
    subst (λ (clauses : List TreeClause). AllByRecursion IsSorted (flat_map clause_trees clauses)) (sym known) (hypotheses_sorted c.args.schemas.now c.args.rule.now c.requires.file.numbers.schemas (rule_numbers c.args.schemas.now c.args.rule.now c.requires))

pub obligation-requires-clause-goal : goal.obligation-requires-clause-goal
obligation-requires-clause-goal c =
    let goals : List BuiltLit = c.as_slice-goal-items.result.now in
    let item : BuiltLit = c.goal-item.result in
    let all : lits_of goals ≡ goals_of c.args.schemas.now c.args.rule.now =
    ap (λ (lits : List BuiltLit). lits_of lits) c.as_slice-goal-items.ensures.value ∙ c.in_ok-goals.ensures in
    subst (λ (goal : BuiltLit). AllByRecursion IsSorted (literal_trees (lit_of goal))) (sym c.goal-item.is)
    (at_goal (λ goal. AllByRecursion IsSorted (literal_trees goal)) goals c.loop-goal.goal-index item c.loop-goal-test.true
    (subst (λ (lits : List TreeLit). AllByRecursion (λ lit. AllByRecursion IsSorted (literal_trees lit)) lits) (sym all) (goals_sorted c.args.schemas.now c.args.rule.now c.requires.file.numbers.schemas (rule_numbers c.args.schemas.now c.args.rule.now c.requires))))

pub obligation-requires-clause-room : goal.obligation-requires-clause-room
obligation-requires-clause-room c =
    let schemas = c.args.schemas.now in
    let rule = c.args.rule.now in
    let goals : List BuiltLit = c.as_slice-goal-items.result.now in
    let item : BuiltLit = c.goal-item.result in
    let known : clauses_of c.as_slice.result.now ≡ hypotheses schemas rule = ap (λ (clauses : List BuiltClause). clauses_of clauses) c.as_slice.ensures.value ∙ c.in_ok-taken.ensures in
    let all : lits_of goals ≡ goals_of schemas rule = ap (λ (lits : List BuiltLit). lits_of lits) c.as_slice-goal-items.ensures.value ∙ c.in_ok-goals.ensures in
    subst (λ (clauses : List TreeClause). trees_size (first_trees rule.params rule.pattern clauses (lit_of item)) < 2 ^ 29) (sym known)
    (subst (λ (goal : BuiltLit). HasFewTerms schemas rule (lit_of goal)) (sym c.goal-item.is)
    (at_goal (HasFewTerms schemas rule) goals c.loop-goal.goal-index item c.loop-goal-test.true
    (subst (AllByRecursion (HasFewTerms schemas rule)) (sym all) (goals_have_few schemas rule c.requires))))

pub returns-in_err-obligation-clause-too_many : goal.returns-in_err-obligation-clause-too_many
returns-in_err-obligation-clause-too_many c =
    let schemas = c.args.schemas.now in
    let rule = c.args.rule.now in
    let goals : List BuiltLit = c.as_slice-goal-items.result.now in
    let taken : List TreeClause = clauses_of c.as_slice.result.now in
    let known : taken ≡ hypotheses schemas rule = ap (λ (clauses : List BuiltClause). clauses_of clauses) c.as_slice.ensures.value ∙ c.in_ok-taken.ensures in
    let all : lits_of goals ≡ goals_of schemas rule = ap (λ (lits : List BuiltLit). lits_of lits) c.as_slice-goal-items.ensures.value ∙ c.in_ok-goals.ensures in
    λ count is. ap (first_excess schemas rule) (sym all)
    ∙ too_many_at schemas rule taken goals c.loop-goal.goal-index c.goal-item.result count known c.loop-goal-test.true c.goal-item.is c.loop-goal.invariant.small
    (c.in_err-obligation.ensures.too_many count (ap Err (err_is c.from_residual-in_err-obligation.result c.in_err-obligation.field-0.0 (TooManyTerms count) c.from_residual-in_err-obligation.ensures.1 is)))

pub loop-goal-preserved : goal.loop-goal-preserved
loop-goal-preserved c =
    let schemas = c.args.schemas.now in
    let rule = c.args.rule.now in
    let goals : List BuiltLit = c.as_slice-goal-items.result.now in
    let i = c.loop-goal.goal-index in
    let item : BuiltLit = c.goal-item.result in
    let taken : List TreeClause = clauses_of c.as_slice.result.now in
    let known : taken ≡ hypotheses schemas rule = ap (λ (clauses : List BuiltClause). clauses_of clauses) c.as_slice.ensures.value ∙ c.in_ok-taken.ensures in
    let made : (c.in_ok-obligation.field-0.terms, c.in_ok-obligation.field-0.clauses) ≡ part_for schemas rule (lit_of item) =
    part_is schemas rule taken (lit_of item) c.in_ok-obligation.field-0.terms c.in_ok-obligation.field-0.clauses known c.in_ok-obligation.ensures.terms c.in_ok-obligation.ensures.clauses in
    let size : length (term_list rule.params rule.pattern taken (lit_of item)) ≡ length (terms_of schemas rule (lit_of (get_or goals i item))) =
    ap (λ (known : List TreeClause). length (term_list rule.params rule.pattern known (lit_of item))) known
    ∙ ap (λ (goal : BuiltLit). length (terms_of schemas rule (lit_of goal))) c.goal-item.is in
    record {
      made = ap parts_of c.in_ok-push.ensures.items
          ∙ map-append part_of c.loop-goal.made.items (c.in_ok-obligation.field-0 ∷ [])
          ∙ ap (λ (front : List Part). front ++ part_of c.in_ok-obligation.field-0 ∷ []) c.loop-goal.invariant.made
          ∙ ap (λ (part : Part). map (part_for schemas rule) (lits_of (take i goals)) ++ part ∷ []) (made ∙ ap (λ (goal : BuiltLit). part_for schemas rule (lit_of goal)) c.goal-item.is)
          ∙ sym (parts_more schemas rule goals i item c.loop-goal-test.true);
      small = excess_more schemas rule goals i item c.loop-goal-test.true c.loop-goal.invariant.small (subst (λ n. n ≤ 512) size c.in_ok-obligation.ensures.small);
      clauses = subst (All IsSmall) (sym c.in_ok-push.ensures.items) (All-push IsSmall c.loop-goal.made.items c.in_ok-obligation.field-0 c.loop-goal.invariant.clauses c.in_ok-obligation.ensures.short);
    }
