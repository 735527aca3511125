use Rattle.std.proofs.Common.{◌≡◌, length, ◌∷◌, sym, subst, ◌∙◌, refl, rules, []}
use Rattle.rh_log.specs.Tree.{IsClosedTree}
use Rattle.rh_term.specs.Partition.{IsOpen}
use Rattle.rh_refuter.specs.Choice.{HasNoFalse, Goes}
use Rattle.rh_refuter.proofs.Searching.{AreBranches, root_branch, found_open, steps_branches, steps_goes, steps_falls, chosen_false}
use Rattle.rh_log.proofs.Refuting.{closed_refutes}
use Rattle.rh_refuter.proofs.search.refute.Goals as goal

pub loop-classes-init : goal.loop-classes-init
loop-classes-init c = record {
  branches = rw c.in_ok-branches.ensures (root_branch _ c.len-list.ensures.list, tt);
  goes = rw (c.new-nodes.ensures.items, c.in_ok-branches.ensures) refl;
}

pub returns-in_default-chosen-clause-decided : goal.returns-in_default-chosen-clause-decided
returns-in_default-chosen-clause-decided c =
    let branches : AreBranches c.args.obligation.now.terms (c.in-Some.classes ∷ c.pop_front.new.self.items)
    = subst (AreBranches c.args.obligation.now.terms) c.in-Some.ensures.items c.loop-classes.invariant.branches in
    let open' = found_open c.args.obligation.now.terms c.args.obligation.now.clauses c.in-Some.classes branches.0
    (subst (λ labels. HasNoFalse c.args.obligation.now.clauses labels) c.labels.ensures.value c.in_default-chosen.ensures.none) in
    subst (λ labels. IsOpen c.args.obligation.now.terms c.args.obligation.now.clauses labels)
    (sym (c.into.ensures ∙ c.in_ok-from_slice.ensures.items ∙ c.labels-in_default-chosen.ensures.value)) open'

pub loop-classes-smaller : goal.loop-classes-smaller
loop-classes-smaller c =
    let first : c.loop-classes.branches.items ≡ c.in-Some.classes ∷ c.pop_front.new.self.items = c.in-Some.ensures.items in
    let branches : AreBranches c.args.obligation.now.terms (c.in-Some.classes ∷ c.pop_front.new.self.items)
    = subst (AreBranches c.args.obligation.now.terms) first c.loop-classes.invariant.branches in
    rw first (steps_falls _ _ c.in-Some.classes _ _ _ c.in_ok-advance.ensures branches.0.partition c.args.obligation.now.within)

pub loop-classes-preserved : goal.loop-classes-preserved
loop-classes-preserved c =
    let first : c.loop-classes.branches.items ≡ c.in-Some.classes ∷ c.pop_front.new.self.items = c.in-Some.ensures.items in
    let branches : AreBranches c.args.obligation.now.terms (c.in-Some.classes ∷ c.pop_front.new.self.items)
    = subst (AreBranches c.args.obligation.now.terms) first c.loop-classes.invariant.branches in
    record {
      branches = steps_branches _ _ c.in-Some.classes _ _ _ c.in_ok-advance.ensures branches.1;
      goes = rw c.in_ok-push.ensures.items (steps_goes _ _ c.in-Some.classes _ _ _ c.in_ok-advance.ensures _ (rw first at c.loop-classes.invariant.goes));
    }

pub returns-clause-decided : goal.returns-clause-decided
returns-clause-decided c =
    let goes : Goes c.args.obligation.now.terms c.args.obligation.now.clauses c.into-2.result [] = search rules in
    let closed : IsClosedTree c.args.obligation.now.terms c.args.obligation.now.clauses c.into-2.result
    = chosen_false _ _ _ _ _ goes in
    (closed, closed_refutes _ _ _ c.args.obligation.now.within closed)
