use Rattle.std.proofs.Common.{◌≡◌, ◌++◌, ◌==◌, map, take, not, filter}
use Rattle.rh_meaning.specs.View.{clauses_of}
use Rattle.rh_goals.specs.Hypotheses.{local_clause}
use Rattle.rh_goals.proofs.own.push_locals.Given as goal

abbrev pub invariant-loop-meta : goal.invariant-loop-meta
invariant-loop-meta l =
    clauses_of l.clauses.items ≡ clauses_of l.fn.clauses.items ++ map (local_clause l.param) (filter (λ meta. not (meta == l.param)) (take l.meta-index l.metas))
