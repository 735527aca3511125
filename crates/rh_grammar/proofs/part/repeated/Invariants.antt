use Rattle.std.proofs.Common.{◌≤◌, ◌∷◌, List, length}
use Rattle.rh_grammar.specs.declared.grammar.Symbol.{Symbol}
use Rattle.rh_grammar.specs.declared.grammar.Symbol.TheVariants.{Rule}
use Rattle.rh_grammar.specs.Cursor.{Left, Listed}
use Rattle.rh_grammar.proofs.part.repeated.Given as goal

abbrev pub invariant-loop-alloc : goal.invariant-loop-alloc
invariant-loop-alloc g l = record {
  read : (rest : List Symbol) → Left g.W.Word.class g.P.Part.rules (Rule g.P.Part.others ∷ rest) l.fn.cursor → Listed g.W.Word.class g.P.Part.rules (Rule g.P.Part.others ∷ rest) g.P.Part.words l.fn.parts l.fn.cursor l.cursor l.parts;
  shrunk : length l.cursor.steps.now ≤ length l.fn.cursor.steps.now;
}

abbrev pub decreases-loop-alloc : goal.decreases-loop-alloc
decreases-loop-alloc g l = length l.cursor.steps.now
