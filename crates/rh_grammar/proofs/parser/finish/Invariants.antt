use Rattle.std.proofs.Common.{ℕ, List, reverse}
use Rattle.rh_grammar.specs.Deterministic.{Evidence, IsDeterministic}
use Rattle.rh_grammar.specs.Parsing.{IsParsed, Any, End}
use Rattle.rh_grammar.proofs.parser.finish.Given as goal

abbrev pub invariant-loop-symbol : goal.invariant-loop-symbol
invariant-loop-symbol l =
    (e : Evidence) (start : ℕ) (tokens : List ℕ) → IsDeterministic l.grammar e → IsParsed l.grammar e start Any tokens (reverse l.initial.stack.items) l.initial.taken.items → IsParsed l.grammar e start End tokens (reverse l.stack.items) l.taken.items

abbrev pub decreases-loop-symbol : goal.decreases-loop-symbol
decreases-loop-symbol l = goal.left-loop-symbol l
