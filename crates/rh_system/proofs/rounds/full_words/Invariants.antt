use Rattle.std.proofs.Common.{◌≡◌, take}
use Rattle.rh_system.proofs.rounds.full_words.Given as goal

abbrev pub invariant-loop-word : goal.invariant-loop-word
invariant-loop-word g l = l.words.items ≡ take l.word (g.S.System.full_words l.system)
