use Rattle.std.proofs.Common.{◌==◌, List, ℕ, length, ap, ◌∙◌}
use Rattle.rh_log_text.proofs.LevelsOf.{none_left}
use Rattle.rh_log_text.proofs.waiting.Waiting.is_empty.Goals as goal

pub returns : goal.returns
returns c =
    c.is_empty.ensures ∙ ap (λ n. n == 0) c.self.inside.levels.ok.0 ∙ none_left c.self.inside.levels.items c.self.invariant ∙ ap (λ (depths : List ℕ). length depths == 0) c.self.view_is
