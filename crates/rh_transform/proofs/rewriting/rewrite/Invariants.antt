use Rattle.std.proofs.Common.{◌≡◌, take}
use Rattle.rh_rows.specs.Known.{known_in}
use Rattle.rh_transform.specs.Rewritten.{rewritten_proc}
use Rattle.rh_transform.proofs.Numbered.{changed}
use Rattle.rh_transform.proofs.rewriting.rewrite.Given as goal

-- the procedures so far are rewritten
abbrev pub invariant-loop-place : goal.invariant-loop-place
invariant-loop-place l =
    l.procs.items ≡ changed (rewritten_proc (known_in l.ground.file.schemas l.ground.program l.words) l.ground.file.rules l.ground.rulings) 0 (take l.place l.ground.program)
