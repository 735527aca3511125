use Rattle.std.proofs.Common.{◌∙◌, refl, arith}
use Rattle.std.proofs.lemmas.Bool.Decides.{when_true, when_false}
use Rattle.rh_engine.proofs.ShareTurns.{range_begins, range_cleared, range_kept, range_ends}
use Rattle.rh_engine.proofs.marks.clear_range.Goals as goal
use Rattle.rh_engine.proofs.marks.clear_range.Goals.{then-clear_marked, else-clear_marked}

pub loop-word-init : goal.loop-word-init
loop-word-init g c = record { table = refl; clears = range_begins _ _ _ }

pub loop-word-preserved : goal.loop-word-preserved
loop-word-preserved g c = record {
  table = c.clear_marked.ensures.table ∙ c.loop-word.invariant.table;
  clears =
      elim c.if-clear_marked.branch [
        | then-clear_marked w ↦ rw w.cleared-is (range_cleared _ _ _ _ _ _ _ c.loop-word.invariant.clears c.clear_marked.ensures.loads (when_true _ _ w.if-clear_marked.true c.clear_marked.ensures.cleared))
        | else-clear_marked w ↦
            rw w.cleared-is
            (let kept = when_false _ _ w.if-clear_marked.false c.clear_marked.ensures.kept in range_kept _ _ _ _ _ _ _ c.loop-word.invariant.clears kept.0 kept.1)
      ];
}

pub returns-clause-kept : goal.returns-clause-kept
returns-clause-kept g c = range_ends _ _ _ _ _ _ _ c.loop-word.invariant.clears (omega arith)
