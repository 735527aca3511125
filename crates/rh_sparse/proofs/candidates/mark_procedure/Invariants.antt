use Rattle.std.specs.List.{range_with_len}
use Rattle.rh_sparse.specs.Candidates.{Marks, concluded_on}
use Rattle.rh_sparse.proofs.Marking.{any_of}
use Rattle.rh_sparse.proofs.candidates.mark_procedure.Given as goal

-- what is concluded on the edges before the number is marked
abbrev pub invariant-loop-number : goal.invariant-loop-number
invariant-loop-number l =
    Marks (any_of (concluded_on l.ground.file l.rulings l.ground.program l.place) (range_with_len 0 l.number)) l.fn.masks.items l.masks.items
