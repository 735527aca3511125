use Rattle.std.proofs.Common.{◌≡◌, take, map}
use Rattle.rh_rule_source.specs.Words.{word_of}
use Rattle.rh_rule_source.proofs.word.words_of.Given as goal

abbrev pub invariant-loop-token : goal.invariant-loop-token
invariant-loop-token l = l.words.items ≡ map (word_of l.text) (take l.token-index l.tokens)
