use Rattle.rh_system.proofs.OneGreatest.{greatest_closed, same_greatest}
use Rattle.rh_system.proofs.rounds.one_greatest.Goals as goal

pub returns-clause-supported : goal.returns-clause-supported
returns-clause-supported g c = greatest_closed _ _ c.requires.greatest

pub returns-clause-one : goal.returns-clause-one
returns-clause-one g c = same_greatest _ _ _ c.requires.greatest c.requires.others c.requires.as_long (λ k. (c.type_inv.words k).fits) (λ k. (c.type_inv.others k).fits)
