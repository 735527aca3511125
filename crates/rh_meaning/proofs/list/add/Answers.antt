use Rattle.std.proofs.Common.{◌≤◌, ◌+◌, List, length, sym, subst}
use Rattle.rh_term.specs.declared.term.Term.{Term}
use Rattle.rh_meaning.proofs.Places.{with_term_few}
use Rattle.rh_meaning.proofs.Sorted.{added_term}
use Rattle.rh_meaning.proofs.list.add.Goals as goal

pub returns-clause-added : goal.returns-clause-added
returns-clause-added c = added_term c.args.terms.now c.add.new.self c.args.term c.in_ok-add.field-0 c.is_term_list.ensures c.in_ok-add.ensures.ok

pub returns-clause-few : goal.returns-clause-few
returns-clause-few c =
    subst (λ (terms : List Term). length terms ≤ length c.args.terms.now + 1) (sym (returns-clause-added c)) (with_term_few c.args.terms.now c.args.term)
