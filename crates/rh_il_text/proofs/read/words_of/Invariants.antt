use Rattle.std.proofs.Common.{◌≡◌, take}
use Rattle.rh_il_source.specs.Words.{words_of}
use Rattle.rh_il_text.proofs.read.words_of.Given as goal

abbrev pub invariant-loop-token : goal.invariant-loop-token
invariant-loop-token l = l.words.items ≡ words_of l.text (take l.token-index l.tokens)
