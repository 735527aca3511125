use Rattle.std.proofs.Common.{◌≡◌, drop}
use Rattle.rh_outside.specs.MemoryShelf.{bytes_named}
use Rattle.rh_outside.proofs.memory_shelf.find.Given as goal

abbrev pub invariant-loop-file : goal.invariant-loop-file
invariant-loop-file l = bytes_named (drop l.file-index l.files) l.name ≡ bytes_named l.fn.files l.name
