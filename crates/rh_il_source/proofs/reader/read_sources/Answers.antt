use Rattle.std.proofs.Common.{refl}
use Rattle.rh_il_source.specs.Grammar.{productions}
use Rattle.rh_il_source.proofs.reader.read_sources.Goals as goal

pub repeated-requires : goal.repeated-requires
unfolding productions
repeated-requires c = refl
