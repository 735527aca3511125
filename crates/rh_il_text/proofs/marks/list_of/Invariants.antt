use Rattle.std.proofs.Common.{◌≡◌, take}
use Rattle.rh_il_text.specs.Known.{names_of}
use Rattle.rh_il_text.proofs.marks.list_of.Given as goal

abbrev pub invariant-loop-source : goal.invariant-loop-source
invariant-loop-source l = l.names.items ≡ names_of (take l.source-index l.sources)
