use Rattle.std.proofs.Common.{◌≡◌, ◌++◌, take}
use Rattle.rh_domain.specs.Facts.{all_facts}
use Rattle.rh_rows.specs.Known.{known_in}
use Rattle.rh_report.specs.FactLines.{lines_of}
use Rattle.rh_report.proofs.known.push_known.Given as goal

abbrev pub invariant-loop-place : goal.invariant-loop-place
invariant-loop-place l =
    l.out.items ≡ l.initial.out.items ++ lines_of l.schemas l.program (known_in l.schemas l.program l.words) (all_facts l.schemas (take l.place l.program))
