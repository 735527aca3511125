use Rattle.std.proofs.Common.{◌≡◌, ◌≤◌, ◌∷◌, ◌++◌, List, length}
use Rattle.std.specs.List.{flat_map}
use Rattle.rh_grammar.specs.declared.grammar.Symbol.{Symbol}
use Rattle.rh_grammar.specs.declared.grammar.Symbol.TheVariants.{Rule}
use Rattle.rh_rule_parse.specs.Cursor.{Left}
use Rattle.rh_rule_parse.proofs.cursor.Cursor.repeated.Given as goal

abbrev pub invariant-loop-alloc : goal.invariant-loop-alloc
invariant-loop-alloc g l = record {
  read : (rest : List Symbol) → Left (Rule g.P.Part.others ∷ rest) l.fn.self → (flat_map g.P.Part.words l.fn.parts ++ l.fn.self.words.now ≡ flat_map g.P.Part.words l.parts ++ l.self.words.now) × Left (Rule g.P.Part.others ∷ rest) l.self;
  shrunk : length l.self.productions.now ≤ length l.fn.self.productions.now;
}

abbrev pub decreases-loop-alloc : goal.decreases-loop-alloc
decreases-loop-alloc g l = length l.self.productions.now
