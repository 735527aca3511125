use Rattle.std.proofs.Common.{◌≡◌, ◌+◌, ◌*◌, ◌≤◌, drop}
use Rattle.rh_rows.specs.Known.{known_in}
use Rattle.rh_report.specs.Counts.{rewrites_from}
use Rattle.rh_report.proofs.tally.rewrites.Given as goal

-- what is counted, and what is left
abbrev pub invariant-loop-place : goal.invariant-loop-place
invariant-loop-place l =
    let known = known_in l.ground.file.schemas l.ground.program l.words in
    (l.count ≤ 4294967296 * l.place) × (l.count + rewrites_from l.ground.file l.ground.rulings known l.place (drop l.place l.ground.program) ≡ rewrites_from l.ground.file l.ground.rulings known 0 l.ground.program)
