-- The outputs are determined.
use Rattle.std.specs.Prelude.{ℕ, ◌≡◌, List}
use Rattle.rh_il.specs.declared.program.Proc.{Proc}
use Rattle.rh_rule.specs.RuleFiles.{Rules}
use Rattle.rh_top.specs.Result.{IsCounted, IsResult}

-- a rule file and a program have one output by `opt`, and one by `gen`, however many workers make it
pub record HasOneOutput (file : Rules) (procs : List Proc) : Type 0 where
  pub opt : (text other : List ℕ) → IsResult file procs text → IsResult file procs other → text ≡ other
  pub gen : (text other : List ℕ) → IsCounted file procs text → IsCounted file procs other → text ≡ other
