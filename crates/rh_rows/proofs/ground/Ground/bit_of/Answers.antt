use Rattle.rh_rows.proofs.EdgeNumbers.{no_bit}
use Rattle.rh_rows.proofs.ground.Ground.bit_of.Goals as goal

pub returns-clause-none : goal.returns-clause-none
returns-clause-none c =
    let self = c.args.self.now in
    no_bit self.layout c.schemas-schemas.result.now self.file.schemas self.program c.args.fact.now c.as_slice-args.result.now c.in_ok-edge.edge c.bit_of.result c.schemas-schemas.ensures.value c.as_slice-args.ensures.value
    self.laid c.in_ok-edge.ensures.found c.bit_of.ensures.none
