use Rattle.rh_il_source.proofs.Classes.{skips}
use Rattle.rh_il_source.proofs.leaf.skip.Goals as goal

pub returns-clause-skips : goal.returns-clause-skips
returns-clause-skips c = skips c.args.cursor.now c.word.new.self c.word.result c.word.ensures.takes
