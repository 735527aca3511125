use Rattle.std.proofs.Common.{◌≡◌, take, map}
use Rattle.rh_il_text.specs.Known.{proc_of}
use Rattle.rh_il_text.proofs.resolve.procs_of.Given as goal

abbrev pub invariant-loop-source : goal.invariant-loop-source
invariant-loop-source l = l.procs.items ≡ map (proc_of l.names) (take l.source-index l.sources)
