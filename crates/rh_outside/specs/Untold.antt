-- What real files and standard output tell: nothing.
use Rattle.std.specs.Prelude.{ℕ, List, Option, None}

abbrev pub untold : Option (List ℕ)
untold = None
