use Rattle.std.proofs.Common.{◌<◌, arith}
use Rattle.rh_rule_source.specs.Grammar.{productions, file}
use Rattle.rh_rule_parse.proofs.Lists.{items_repeated}
use Rattle.rh_rule_parse.proofs.cursor.Cursor.file.Goals as goal

pub repeated-requires : goal.repeated-requires
repeated-requires c = items_repeated

pub repeated-requires-in-1 : goal.repeated-requires-in-1
repeated-requires-in-1 c = items_repeated

pub returns-in_default-clause-reads : goal.returns-in_default-clause-reads
unfolding productions
returns-in_default-clause-reads c rest h =
    let high : c.choose.result < 3 = c.choose.ensures.within file rest h in
    let s0 = c.choose.ensures.known 2 (omega arith) file rest h in
    (rw c.new-in_default.ensures s0.0, s0.1)
