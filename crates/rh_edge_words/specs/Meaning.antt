-- What a name of a system stands for.
use Rattle.std.specs.Prelude.{ℕ, List}
use Rattle.rh_system.specs.declared.system.Row.{Row}

pub record Meaning : Type 0 where
  pub full : List ℕ
  pub rows : List Row
