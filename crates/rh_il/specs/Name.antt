-- The names of the language, as lists of bytes.
use Rattle.std.specs.Prelude.{ℕ, Bool, false, ◌&&◌, ◌||◌, ◌==◌, nat_le, List, [], ◌∷◌, length}
use Rattle.std.specs.List.{list_all}
use Rattle.std.specs.Char.{is_ascii_alphabetic, is_ascii_alphanumeric, is_ascii_lowercase, is_ascii_uppercase}

-- what may follow the first letter of a name: a letter, a digit or `_`
abbrev pub is_word_byte : ℕ → Bool
is_word_byte byte = is_ascii_alphanumeric byte || byte == 95

-- a letter, and at most 31 letters, digits and `_` after it
abbrev pub is_name : List ℕ → Bool
is_name [] = false
is_name (first ∷ rest) = is_ascii_alphabetic first && (nat_le (length rest) 31 && list_all is_word_byte rest)

-- a name that begins with a small letter
abbrev pub is_lower_name : List ℕ → Bool
is_lower_name [] = false
is_lower_name (first ∷ rest) = is_ascii_lowercase first && is_name (first ∷ rest)

-- a name that begins with a capital letter
abbrev pub is_upper_name : List ℕ → Bool
is_upper_name [] = false
is_upper_name (first ∷ rest) = is_ascii_uppercase first && is_name (first ∷ rest)
