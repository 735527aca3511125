use Rattle.std.proofs.Common.{◌≡◌, ◌*◌, ◌++◌}
use Rattle.rh_report.specs.FactLines.{line_at, texts_of}
use Rattle.rh_report.proofs.WordLines.{stands_from}
use Rattle.rh_report.proofs.known.EdgeFacts.push_lines.Given as goal

abbrev pub invariant-loop-within : goal.invariant-loop-within
invariant-loop-within l =
    l.out.items ≡ l.initial.out.items ++ texts_of (stands_from l.words l.start) (line_at l.self.schemas.now l.self.program.now l.self.laid.now.domain l.self.place l.self.edge) 0 (64 * l.within)
