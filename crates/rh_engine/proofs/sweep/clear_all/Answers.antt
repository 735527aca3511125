use Rattle.std.proofs.Common.{◌∙◌, refl, arith}
use Rattle.std.proofs.lemmas.Bool.Decides.{when_true, when_false}
use Rattle.rh_engine.proofs.Fewer.{clears_nothing, clears_more, clears_kept, clears_all, swept_none, swept_more, swept_all}
use Rattle.rh_engine.proofs.sweep.clear_all.Goals as goal
use Rattle.rh_engine.proofs.sweep.clear_all.Goals.{then-clear_word, else-clear_word}

pub loop-word-init : goal.loop-word-init
loop-word-init g c = record { table = refl; loads = record { stake = refl; loads = refl; last = refl }; swept = swept_none _ _; clears = clears_nothing _ _ }

pub loop-word-preserved : goal.loop-word-preserved
loop-word-preserved g c = record {
  table = c.clear_word.ensures.table ∙ c.loop-word.invariant.table;
  loads = record {
    stake = c.clear_word.ensures.loads.stake ∙ c.loop-word.invariant.loads.stake;
    loads = c.clear_word.ensures.loads.loads ∙ c.loop-word.invariant.loads.loads;
    last = c.clear_word.ensures.loads.last ∙ c.loop-word.invariant.loads.last;
  };
  swept = swept_more _ _ _ _ _ c.loop-word.invariant.swept c.clear_word.ensures.within c.clear_word.ensures.swept;
  clears =
      elim c.if-clear_word.branch [
        | then-clear_word w ↦ rw w.cleared-is (clears_more _ _ _ _ _ _ c.loop-word.invariant.clears (when_true _ _ w.if-clear_word.true c.clear_word.ensures.cleared))
        | else-clear_word w ↦
            rw w.cleared-is
            (let kept = when_false _ _ w.if-clear_word.false c.clear_word.ensures.kept in clears_kept _ _ _ _ _ _ kept.0 c.loop-word.invariant.clears kept.1)
      ];
}

pub returns-clause-closed : goal.returns-clause-closed
returns-clause-closed g c = clears_all _ _ _ _ _ c.loop-word.invariant.clears (omega (arith, c.is_seated.ensures.as_long, c.count-word-end.ensures))

pub returns-clause-swept : goal.returns-clause-swept
returns-clause-swept g c = swept_all _ _ _ _ c.loop-word.invariant.swept (omega (arith, c.is_seated.ensures.as_long, c.count-word-end.ensures))
