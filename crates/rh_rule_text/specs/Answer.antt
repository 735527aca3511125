-- What a reader answers, or that it is out of memory.
use Rattle.std.specs.Prelude.{◌≡◌, ◌⊎◌, Result, Ok, Err}
use Rattle.rh_rule_text.specs.declared.fault.RulesFault.{RulesFault}
use Rattle.rh_rule_text.specs.declared.fault.RulesFault.TheVariants.{NoMemory}

-- this value, or out of memory
abbrev pub IsAnswer : {T : Type 0} → T → Result T RulesFault → Type 0
IsAnswer value (Ok told) = told ≡ value
IsAnswer value (Err fault) = fault ≡ NoMemory

-- this fault, or out of memory
abbrev pub IsRefusal : {T : Type 0} → RulesFault → Result T RulesFault → Type 0
IsRefusal fault (Ok told) = ⊥
IsRefusal fault (Err told) = (told ≡ fault) ⊎ (told ≡ NoMemory)
