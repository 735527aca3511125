use Rattle.std.proofs.Common.{◌≡◌, Some}
use Rattle.std.specs.Prelude.{slice_get}
use Rattle.rh_il.specs.declared.program.Proc.{Proc}
use Rattle.rh_rows.specs.Known.{known_in}
use Rattle.rh_transform.proofs.Applying.{first_from}
use Rattle.rh_transform.proofs.templates.first_rewrite.Given as goal

-- no rule before the number applied
abbrev pub invariant-loop-rule : goal.invariant-loop-rule
invariant-loop-rule l = (proc : Proc) → slice_get l.ground.program l.place ≡ Some proc
    → first_from (known_in l.ground.file.schemas l.ground.program l.words) l.place proc l.number l.stmt l.ground.file.rules l.ground.rulings 0
    ≡ first_from (known_in l.ground.file.schemas l.ground.program l.words) l.place proc l.number l.stmt l.ground.file.rules l.ground.rulings l.rule
