use Rattle.std.proofs.Common.{◌≡◌, ◌++◌, [], ◌∷◌, map, take}
use Rattle.rh_meaning.specs.Literal.{differs}
use Rattle.rh_meaning.specs.Tree.{Leaf}
use Rattle.rh_meaning.specs.View.{clauses_of}
use Rattle.rh_goals.specs.Statement.{address}
use Rattle.rh_term.specs.declared.term.Term.TheVariants.{Fresh}
use Rattle.rh_goals.proofs.own.push_no_variables.Given as goal

abbrev pub invariant-loop-meta : goal.invariant-loop-meta
invariant-loop-meta l =
    clauses_of l.clauses.items ≡ clauses_of l.fn.clauses.items ++ map (λ meta. differs (Leaf Fresh) (address meta) ∷ []) (take l.meta-index l.metas)
