use Rattle.rh_il_source.proofs.Classes.{reads_number}
use Rattle.rh_il_source.proofs.leaf.read_number.Goals as goal

pub returns-clause-reads : goal.returns-clause-reads
returns-clause-reads c = reads_number c.args.cursor.now c.word.new.self c.word.result c.number_in.result c.word.ensures.takes c.number_in.ensures
