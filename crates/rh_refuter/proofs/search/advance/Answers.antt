use Rattle.std.proofs.Common.{◌<◌, ◌^◌, length, sym, subst, ◌∙◌}
use Rattle.std.specs.List.{list_all}
use Rattle.std.proofs.lemmas.List.Elements.{All-get_or}
use Rattle.std.proofs.lemmas.Option.{get_or_from_slice_get}
use Rattle.rh_term.specs.declared.clause.Clause.{Clause}
use Rattle.rh_term.specs.Clause.{is_within}
use Rattle.rh_log.proofs.Refuting.{clause_passes}
use Rattle.rh_refuter.proofs.search.advance.Goals as goal

pub expand-requires-clause-within : goal.expand-requires-clause-within
expand-requires-clause-within c =
    let obligation = c.args.obligation.now in
    clause_passes (λ clause. list_all (is_within (length obligation.terms)) clause.lits) obligation.clauses c.args.number c.in-Some.clause
    (sym c.in_ok-clause.ensures ∙ c.in-Some.is) obligation.within

pub node-requires : goal.node-requires
node-requires c =
    let clauses = c.args.obligation.now.clauses in
    let clause = c.in-Some.clause in
    subst (λ (clause : Clause). length clause.lits < 2 ^ 32) (get_or_from_slice_get clauses c.args.number clause clause (sym c.in_ok-clause.ensures ∙ c.in-Some.is))
    (All-get_or (λ (clause : Clause). length clause.lits < 2 ^ 32) clauses c.args.number clause c.requires.number c.requires.narrow)
