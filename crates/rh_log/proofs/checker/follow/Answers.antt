use Rattle.std.proofs.Common.{length, sym, ◌∙◌}
use Rattle.std.specs.List.{list_all}
use Rattle.rh_term.specs.Clause.{is_within}
use Rattle.rh_log.proofs.Refuting.{clause_passes}
use Rattle.rh_log.proofs.checker.follow.Goals as goal

pub expand-requires-clause-within : goal.expand-requires-clause-within
expand-requires-clause-within c =
    let obligation = c.args.obligation.now in
    clause_passes (λ clause. list_all (is_within (length obligation.terms)) clause.lits) obligation.clauses c.args.node.clause c.in-Some-2.clause
    (sym c.in_ok-clause.ensures ∙ c.in-Some-2.is) obligation.within
