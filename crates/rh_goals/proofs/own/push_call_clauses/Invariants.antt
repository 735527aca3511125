use Rattle.std.proofs.Common.{◌≡◌, ◌++◌, take}
use Rattle.std.specs.List.{flat_map}
use Rattle.rh_meaning.specs.View.{clauses_of}
use Rattle.rh_goals.specs.Hypotheses.{call_clauses_of}
use Rattle.rh_goals.proofs.own.push_call_clauses.Given as goal

abbrev pub invariant-loop-meta : goal.invariant-loop-meta
invariant-loop-meta l =
    clauses_of l.clauses.items ≡ clauses_of l.fn.clauses.items ++ flat_map call_clauses_of (take l.meta-index l.metas)
