-- What one read gives of a file.
use Rattle.std.specs.Prelude.{ℕ, ◌≡◌, ◌<◌, ◌≤◌, List, ◌++◌, length, take, drop}

-- the first count bytes of the buffer are the file's bytes from a place on; none comes into a buffer
-- that has room only at the end of the file or past it
pub record ReadsAt (bytes : List ℕ) (at count : ℕ) (buffer : List ℕ) : Type 0 where
  pub within : count ≤ length (drop at bytes)
  pub same : take count buffer ≡ take count (drop at bytes)
  pub ended : count ≡ 0 → 0 < length buffer → length bytes ≤ at

-- the bytes are the front of those that are held
pub record IsFront (bytes held : List ℕ) : Type 0 where
  pub rest : bytes ++ drop (length bytes) held ≡ held
