-- What a write adds to what was written, and when it is a fault.
use Rattle.std.specs.Prelude.{ℕ, ◌==◌, ◌&&◌, not, Bool, true, List, ◌++◌, length, Option, Some, None, Result, Ok, Err}
use Rattle.rh_outside.specs.declared.shelf.Failed.{Failed}

-- what was written, and more after it
abbrev pub appended : Option (List ℕ) → List ℕ → Option (List ℕ)
appended None more = None
appended (Some written) more = Some (written ++ more)

-- the call failed, or took no byte of a piece that is not empty
abbrev pub is_write_fault : List ℕ → Result ℕ Failed → Bool
is_write_fault piece (Err failed) = true
is_write_fault piece (Ok count) = (count == 0) && not (length piece == 0)
