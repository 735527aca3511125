-- Words with the bits of two lists of words.
use Rattle.std.specs.Prelude.{ℕ, List, [], ◌∷◌, bit_or}

-- the words with the bits of both, as many as there are in both lists
abbrev pub united : List ℕ → List ℕ → List ℕ
united [] others = []
united (one ∷ ones) [] = []
united (one ∷ ones) (other ∷ others) = bit_or one other ∷ united ones others
