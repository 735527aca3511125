-- A map with the first place of each name.
use Rattle.std.specs.Prelude.{◌≡◌, ℕ, List, String}
use Rattle.std.specs.List.{position}
use Rattle.std.specs.Str.{bytes_eq}
use Rattle.indexmap.specs.IndexMap.{IndexMap, get_by_text}

-- it has the first place of each of the names
abbrev pub IsIndex : {A S : Type 0} → IndexMap (String A) ℕ S → List (List ℕ) → Type 0
IsIndex places names = (name : List ℕ) → get_by_text places name ≡ position (bytes_eq name) names
