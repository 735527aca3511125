use Rattle.std.proofs.Common.{ℕ, List, reverse}
use Rattle.rh_grammar.specs.Deterministic.{Evidence, IsDeterministic, load}
use Rattle.rh_grammar.specs.Parsing.{IsParsed, Any, Next}
use Rattle.rh_grammar.proofs.parser.settle.Given as goal

abbrev pub invariant-loop-rule : goal.invariant-loop-rule
invariant-loop-rule l =
    (e : Evidence) (start : ℕ) (tokens : List ℕ) → IsDeterministic l.grammar e → IsParsed l.grammar e start Any tokens (reverse l.initial.stack.items) l.initial.taken.items → IsParsed l.grammar e start (Next l.class) tokens (reverse l.stack.items) l.taken.items

abbrev pub decreases-loop-rule : goal.decreases-loop-rule
decreases-loop-rule l = load l.grammar (reverse l.stack.items)
