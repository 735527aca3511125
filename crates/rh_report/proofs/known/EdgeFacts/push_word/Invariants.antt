use Rattle.std.proofs.Common.{◌≡◌, ◌+◌, ◌-◌, ◌≤◌, ◌++◌}
use Rattle.rh_report.specs.FactLines.{line_at, texts_of}
use Rattle.rh_report.proofs.WordLines.{is_set_from}
use Rattle.rh_report.proofs.known.EdgeFacts.push_word.Given as goal

abbrev pub invariant-loop-place : goal.invariant-loop-place
invariant-loop-place l =
    let text = line_at l.self.schemas.now l.self.program.now l.self.laid.now.domain l.self.place l.self.edge in
    (l.from ≤ 64)
    × (l.out.items ++ texts_of (is_set_from l.word l.first) text (l.first + l.from) (64 - l.from) ≡ l.initial.out.items ++ texts_of (is_set_from l.word l.first) text l.first 64)

abbrev pub decreases-loop-place : goal.decreases-loop-place
decreases-loop-place l = 64 - l.from
