use Rattle.std.proofs.Common.{◌≡◌, take}
use Rattle.rh_rows.specs.Known.{known_in}
use Rattle.rh_transform.specs.Rewritten.{rewritten_statement}
use Rattle.rh_transform.proofs.Numbered.{changed}
use Rattle.rh_transform.proofs.rewriting.rewrite_proc.Given as goal

-- the statements so far are rewritten
abbrev pub invariant-loop-number : goal.invariant-loop-number
invariant-loop-number l =
    l.body ≡ changed (rewritten_statement (known_in l.ground.file.schemas l.ground.program l.words) l.ground.file.rules l.ground.rulings l.place l.proc) 0 (take l.number l.proc.body)
