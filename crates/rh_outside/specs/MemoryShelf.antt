-- A shelf in memory.
use Rattle.std.specs.Prelude.{ℕ, List, [], ◌∷◌, Option, Some, None, if◌then◌else◌}
use Rattle.std.specs.Str.{bytes_eq}
use Rattle.rh_outside.specs.declared.memory_shelf.NamedFile.{NamedFile}

-- the files, the numbers of the calls that fail, and how many calls and faults there were
pub record ShelfState : Type 0 where
  pub files : List NamedFile
  pub fails : List ℕ
  pub calls : ℕ
  pub faults : ℕ

-- the bytes of the first file of that name
abbrev pub bytes_named : List NamedFile → List ℕ → Option (List ℕ)
bytes_named [] name = None
bytes_named (file ∷ files) name = if bytes_eq file.name name then Some file.bytes else bytes_named files name
