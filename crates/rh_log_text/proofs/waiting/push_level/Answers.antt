use Rattle.std.proofs.Common.{ap, ◌∙◌}
use Rattle.rh_log_text.specs.Levels.{depths_of}
use Rattle.rh_log_text.proofs.LevelsOf.{depths_more}
use Rattle.rh_log_text.proofs.waiting.push_level.Goals as goal

pub returns-in_ok-push-clause-depths : goal.returns-in_ok-push-clause-depths
returns-in_ok-push-clause-depths c = ap depths_of c.in_ok-push.ensures.items ∙ depths_more c.args.levels.now.items record { depth = c.args.depth; count = c.args.count }
