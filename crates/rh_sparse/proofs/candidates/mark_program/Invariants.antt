use Rattle.std.specs.List.{range_with_len}
use Rattle.rh_sparse.specs.Candidates.{Marks, concluded_in}
use Rattle.rh_sparse.proofs.Marking.{any_of}
use Rattle.rh_sparse.proofs.candidates.mark_program.Given as goal

-- what is concluded in the procedures before the place is marked
abbrev pub invariant-loop-place : goal.invariant-loop-place
invariant-loop-place l =
    Marks (any_of (concluded_in l.ground.file l.rulings l.ground.program) (range_with_len 0 l.place)) l.fn.masks.items l.masks.items
