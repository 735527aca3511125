-- How the code keeps the depths at which nodes are awaited.
use Rattle.std.specs.Prelude.{ℕ, ◌<◌, List, [], ◌∷◌, ◌++◌}
use Rattle.std.specs.Prelude.{replicate}
use Rattle.rh_log_text.specs.declared.waiting.Level.{Level}

-- each level's depth, so many times as nodes are awaited there, from the last level on
abbrev pub depths_of : List Level → List ℕ
depths_of [] = []
depths_of (level ∷ levels) = depths_of levels ++ replicate level.count level.depth

abbrev pub HasSome : Level → Type 0
HasSome level = 0 < level.count
