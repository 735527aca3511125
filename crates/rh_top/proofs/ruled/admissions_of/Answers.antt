use Rattle.rh_top.proofs.Results.{few_terms}
use Rattle.rh_top.proofs.ruled.admissions_of.Goals as goal

pub returns-in-Ok-clause-few_terms : goal.returns-in-Ok-clause-few_terms
returns-in-Ok-clause-few_terms g c = few_terms c.args.file.now c.in-Ok.admissions.items c.in-Ok.ensures.told
