use Rattle.rh_args.proofs.Fronts.{usage_place}
use Rattle.rh_args.proofs.command.read_words.Goals as goal

pub returns-in-Err-clause-place : goal.returns-in-Err-clause-place
returns-in-Err-clause-place c = usage_place _ _ c.in-Err.ensures.farthest
