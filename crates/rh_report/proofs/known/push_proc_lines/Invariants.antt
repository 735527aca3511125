use Rattle.std.proofs.Common.{◌≡◌, ◌+◌, ◌*◌, ◌++◌, Some, take}
use Rattle.std.specs.List.{flat_map}
use Rattle.std.specs.Prelude.{slice_get}
use Rattle.rh_il.specs.declared.program.Proc.{Proc}
use Rattle.rh_domain.specs.Facts.{facts_on}
use Rattle.rh_rows.specs.Known.{known_in}
use Rattle.rh_report.specs.FactLines.{lines_of}
use Rattle.rh_report.proofs.known.push_proc_lines.Given as goal

abbrev pub invariant-loop-edge : goal.invariant-loop-edge
invariant-loop-edge l = record {
  start_is : l.start ≡ l.laid.first_word + l.edge-index * l.laid.width;
  written : (proc : Proc) → slice_get l.program l.place ≡ Some proc
      → l.out.items ≡ l.initial.out.items ++ lines_of l.schemas l.program (known_in l.schemas l.program l.words) (flat_map (facts_on l.schemas proc l.place) (take l.edge-index l.edges));
}
