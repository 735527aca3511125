use Rattle.rh_sparse.proofs.Marking.{marks_one}
use Rattle.rh_sparse.proofs.candidates.mark.Goals as goal

pub returns-then-place-words : goal.returns-then-place-words
returns-then-place-words c = marks_one c.args.words.now c.args.bit c.with_bit.result c.if-place-words.true c.with_bit.ensures.here c.with_bit.ensures.others
