use Rattle.std.proofs.Common.{◌≡◌, ◌≤◌, ◌<◌, ◌∷◌, ◌++◌, List, length}
use Rattle.rh_grammar.specs.declared.grammar.Symbol.{Symbol}
use Rattle.rh_grammar.specs.declared.grammar.Symbol.TheVariants.{Rule}
use Rattle.rh_rule_parse.specs.Cursor.{Left}
use Rattle.rh_rule_source.specs.Source.{separated}
use Rattle.rh_rule_source.specs.declared.word.Word.TheVariants.{Fixed}
use Rattle.rh_rule_parse.proofs.cursor.Cursor.separated.Given as goal

abbrev pub invariant-loop-alloc : goal.invariant-loop-alloc
invariant-loop-alloc g l = record {
  read : (rest : List Symbol) → Left (Rule g.P.Part.part ∷ Rule g.P.Part.others ∷ rest) l.fn.self → (l.fn.self.words.now ≡ separated g.P.Part.words (Fixed g.P.Part.between) l.parts ++ l.self.words.now) × Left (Rule g.P.Part.others ∷ rest) l.self;
  some : 0 < length l.parts;
  shrunk : length l.self.productions.now ≤ length l.fn.self.productions.now;
}

abbrev pub decreases-loop-alloc : goal.decreases-loop-alloc
decreases-loop-alloc g l = length l.self.productions.now
