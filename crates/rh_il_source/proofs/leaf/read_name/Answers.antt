use Rattle.rh_il_source.proofs.Classes.{reads_name}
use Rattle.rh_il_source.proofs.leaf.read_name.Goals as goal

pub returns-clause-reads : goal.returns-clause-reads
returns-clause-reads c = reads_name c.args.cursor.now c.word.new.self c.word.result c.name_in.result c.word.ensures.takes c.name_in.ensures
