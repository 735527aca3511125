-- How a name lies in 32 bytes.
use Rattle.std.specs.Prelude.{ℕ, ◌-◌, ◌≡◌, List, ◌++◌, length, take, replicate, IsTrue}
use Rattle.rh_il.specs.Name.{is_name}

-- the name, and zeros up to 32 bytes
abbrev pub padded : List ℕ → List ℕ
padded name = name ++ replicate (32 - length name) 0

-- the first len bytes are a name, and the others are zeros
pub record IsSpelling (bytes : List ℕ) (len : ℕ) : Type 0 where
  pub name : IsTrue (is_name (take len bytes))
  pub len_is : length (take len bytes) ≡ len
  pub bytes_is : padded (take len bytes) ≡ bytes
