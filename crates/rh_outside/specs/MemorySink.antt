-- A sink in memory.
use Rattle.std.specs.Prelude.{ℕ, List}

-- what was written, how much room there was at first, the greatest piece that one call takes, the
-- numbers of the calls that fail, and how many calls and faults there were
pub record SinkState : Type 0 where
  pub written : List ℕ
  pub room : ℕ
  pub piece : ℕ
  pub fails : List ℕ
  pub calls : ℕ
  pub faults : ℕ
