-- How lines are read, and what is awaited after them.
use Rattle.std.specs.Prelude.{ℕ, suc, ◌^◌, nat_lt, ◌&&◌, ◌==◌, List, Option, Some, None, option_map, codes, length, take, drop, if◌then◌else◌}
use Rattle.std.specs.Fmt.{decimal}
use Rattle.std.specs.List.{position}
use Rattle.std.specs.Str.{bytes_eq}
use Rattle.std.specs.Str.Parse.{digits_value}
use Rattle.rh_il.specs.Name.{is_name}
use Rattle.rh_log_text.specs.declared.line.Line.{Line}
use Rattle.rh_log_text.specs.declared.line.Line.TheVariants.{Rule, Log, Node}

-- what stands behind a front, where the bytes begin with it
abbrev pub after : List ℕ → List ℕ → Option (List ℕ)
after front bytes = if bytes_eq (take (length front) bytes) front then Some (drop (length front) bytes) else None

-- the number that a word spells in decimal, without zeros in front, where it has 32 bits
abbrev pub number_of : List ℕ → Option ℕ
number_of word = let value = digits_value 10 word in if nat_lt value (2 ^ 32) && bytes_eq word (decimal value) then Some value else None

abbrev pub rule_of : List ℕ → Option Line
rule_of name = if is_name name then Some (Rule name) else None

abbrev pub node_with : Option ℕ → Option ℕ → Option Line
node_with (Some clause) (Some children) = Some (Node record { clause = clause; children = children })
node_with _ _ = None

-- a word up to the first space, and the word behind it
abbrev pub node_of : List ℕ → Option Line
node_of bytes = elim (position (λ byte. byte == 32) bytes) as (λ _. Option Line) [
  | None ↦ None
  | Some end ↦ node_with (number_of (take end bytes)) (number_of (drop (suc end) bytes))
]

-- the line that the bytes are
abbrev pub line_of : List ℕ → Option Line
line_of bytes = elim (after (codes "rule ") bytes) as (λ _. Option Line) [
  | Some name ↦ rule_of name
  | None ↦ elim (after (codes "log ") bytes) as (λ _. Option Line) [ Some word ↦ option_map Log (number_of word) | None ↦ node_of bytes ]
]
