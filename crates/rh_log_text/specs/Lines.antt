-- The lines of a text.
use Rattle.std.specs.Prelude.{ℕ, ◌+◌, Bool, false, not, ◌==◌, List, [], ◌∷◌, length, if◌then◌else◌}
use Rattle.std.specs.List.{filter}

-- a byte in front of the first of the lines
abbrev pub onto_first : ℕ → List (List ℕ) → List (List ℕ)
onto_first byte [] = (byte ∷ []) ∷ []
onto_first byte (line ∷ lines) = (byte ∷ line) ∷ lines

-- the lines of a text: each ends by LF, and the last may end at the end of the text
abbrev pub lines_of : List ℕ → List (List ℕ)
lines_of [] = []
lines_of (byte ∷ bytes) = if byte == 10 then [] ∷ lines_of bytes else onto_first byte (lines_of bytes)

-- lines with their numbers
abbrev pub numbered : ℕ → List (List ℕ) → List (ℕ × List ℕ)
numbered number [] = []
numbered number (line ∷ lines) = (number, line) ∷ numbered (number + 1) lines

-- a line that begins with `#`
abbrev pub is_comment : List ℕ → Bool
is_comment [] = false
is_comment (first ∷ others) = first == 35

-- the lines that are not skipped
abbrev pub kept : List (ℕ × List ℕ) → List (ℕ × List ℕ)
kept lines = filter (λ line. not (is_comment line.1)) lines

-- the lines of a text that are not skipped, with their numbers from 1 on
abbrev pub kept_lines : List ℕ → List (ℕ × List ℕ)
kept_lines text = kept (numbered 1 (lines_of text))

-- the number of the line behind the text
abbrev pub next_line : List ℕ → ℕ
next_line text = length (lines_of text) + 1
