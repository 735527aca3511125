use Rattle.std.proofs.Common.{◌≡◌, take}
use Rattle.std.specs.List.{flat_map}
use Rattle.rh_il_text.specs.Known.{source_marks}
use Rattle.rh_il_text.proofs.marks.marks_of.Given as goal

abbrev pub invariant-loop-source : goal.invariant-loop-source
invariant-loop-source l = l.marks.items ≡ flat_map (source_marks l.procs) (take l.source-index l.sources)
