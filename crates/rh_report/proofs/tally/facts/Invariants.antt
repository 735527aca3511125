use Rattle.std.proofs.Common.{◌≡◌, ◌*◌, ◌≤◌}
use Rattle.rh_report.proofs.Counted.{total}
use Rattle.rh_report.proofs.KnownCounts.{ones_in}
use Rattle.rh_report.proofs.tally.facts.Given as goal

-- the facts of the words so far are counted
abbrev pub invariant-loop-word : goal.invariant-loop-word
invariant-loop-word l = (l.count ≤ 4294967296 * l.word) × (l.count ≡ total (ones_in l.ground.file.schemas l.ground.program l.words) l.word)
