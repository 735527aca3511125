use Rattle.std.proofs.Common.{◌≡◌, take, map}
use Rattle.rh_il_text.specs.Known.{stmt_of}
use Rattle.rh_il_text.proofs.resolve.body_of.Given as goal

abbrev pub invariant-loop-line : goal.invariant-loop-line
invariant-loop-line l = l.body ≡ map (stmt_of l.vars l.procs) (take l.line-index l.lines)
