use Rattle.std.proofs.Common.{◌≡◌, ◌<◌, length}
use Rattle.std.specs.List.{All}
use Rattle.rh_system.proofs.hinted_list.links_of_words.Given as goal

abbrev pub invariant-loop-word : goal.invariant-loop-word
invariant-loop-word l = record {
  many : length l.links ≡ l.word;
  readers : All (λ link. All (λ word. word < length l.system.full) link.readers) l.links;
  entering : All (λ link. All (λ word. word < length l.system.full) link.entering) l.links;
}
