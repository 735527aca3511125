use Rattle.std.proofs.Common.{◌≡◌, take}
use Rattle.rh_il_source.specs.Words.{classes_of}
use Rattle.rh_il_text.proofs.read.classes_of.Given as goal

abbrev pub invariant-loop-word : goal.invariant-loop-word
invariant-loop-word l = l.classes.items ≡ classes_of (take l.word-index l.words)
