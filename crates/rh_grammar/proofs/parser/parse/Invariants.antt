use Rattle.std.proofs.Common.{◌<◌, take, reverse}
use Rattle.rh_grammar.specs.Deterministic.{Evidence, IsDeterministic}
use Rattle.rh_grammar.specs.Parsing.{IsParsed, Any}
use Rattle.rh_grammar.proofs.parser.parse.Given as goal

abbrev pub invariant-loop-place : goal.invariant-loop-place
invariant-loop-place l =
    (e : Evidence) → IsDeterministic l.grammar e → l.rule < e.count → IsParsed l.grammar e l.rule Any (take l.place l.tokens) (reverse l.stack.items) l.taken.items
