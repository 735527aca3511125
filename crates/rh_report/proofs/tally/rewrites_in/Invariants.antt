use Rattle.std.proofs.Common.{◌≡◌, ◌≤◌}
use Rattle.rh_rows.specs.Known.{known_in}
use Rattle.rh_report.specs.Counts.{counted, is_rewritten}
use Rattle.rh_report.proofs.tally.rewrites_in.Given as goal

abbrev pub invariant-loop-number : goal.invariant-loop-number
invariant-loop-number l =
    (l.count ≤ l.number) × (l.count ≡ counted (is_rewritten l.ground.file l.ground.rulings (known_in l.ground.file.schemas l.ground.program l.words) l.place l.proc) 0 l.number)
