use Rattle.rh_rows.proofs.NoFact.{no_fact}
use Rattle.rh_rows.proofs.ground.Ground.fact_of.Goals as goal

pub returns-clause-none : goal.returns-clause-none
returns-clause-none c =
    no_fact c.args.self.now.layout c.args.bit c.schemas.result.now c.args.self.now.file.schemas c.args.self.now.program c.fact_of.result c.schemas.ensures.value c.args.self.now.laid c.fact_of.ensures.none
