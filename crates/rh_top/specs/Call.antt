-- What a contract sees of a call: its shelf and its sink, before and after it.
use Rattle.std.specs.Prelude.{ℕ, ◌≡◌, List, Option, Some, IfSome}
use Rattle.rh_outside.specs.Faults.{Rises}
use Rattle.rh_outside.specs.Writing.{appended}

-- the bytes that the shelf holds under each name, where it tells them, and its counts of faults
pub record Reads : Type 0 where
  pub holds : List ℕ → Option (List ℕ)
  pub faults_before : List ℕ → ℕ
  pub faults_after : List ℕ → ℕ

-- what was written to the sink, where it tells that, and its counts of faults
pub record Writes : Type 0 where
  pub written_before : Option (List ℕ)
  pub written_after : Option (List ℕ)
  pub sunk_before : ℕ
  pub sunk_after : ℕ

-- a write failed
abbrev pub WriteFails : Writes → Type 0
WriteFails writes = Rises writes.sunk_before writes.sunk_after

-- these bytes were written
abbrev pub Wrote : Writes → List ℕ → Type 0
Wrote writes bytes = writes.written_after ≡ appended writes.written_before bytes

-- nothing was written
abbrev pub WroteNothing : Writes → Type 0
WroteNothing writes = writes.written_after ≡ writes.written_before

-- where a text comes from: its bytes, where they are told, and the counts of failed reads
pub record Source : Type 0 where
  pub held : Option (List ℕ)
  pub faults_before : ℕ
  pub faults_after : ℕ

-- the file of that name
abbrev pub file : Reads → List ℕ → Source
file reads name = record { held = reads.holds name; faults_before = reads.faults_before name; faults_after = reads.faults_after name }

-- bytes that the call itself makes
abbrev pub made : List ℕ → Source
made bytes = record { held = Some bytes; faults_before = 0; faults_after = 0 }

-- a read of it failed
abbrev pub ReadFails : Source → Type 0
ReadFails source = Rises source.faults_before source.faults_after

-- these are the bytes that are told, if any are
abbrev pub MayBe : Option (List ℕ) → List ℕ → Type 0
MayBe held bytes = IfSome held (λ told. bytes ≡ told)
