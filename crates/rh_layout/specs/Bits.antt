-- The facts on the edges of a program as bits of words: bit b stands in word b / 64 at place b % 64.
use Rattle.std.specs.Prelude.{ℕ, ◌≡◌, ◌+◌, ◌-◌, ◌*◌, ◌/◌, ◌%◌, ◌^◌, ◌==◌, min, Bool, List, [], ◌∷◌, Some, length, map, take, slice_get, slice_index}
use Rattle.std.specs.Int.{bit_at}
use Rattle.std.specs.List.{flat_map, range_with_len}
use Rattle.rh_il.specs.declared.program.Edge.{Edge}
use Rattle.rh_il.specs.declared.program.Proc.{Proc}
use Rattle.rh_il.specs.Flow.{edges_of}
use Rattle.rh_rule.specs.declared.schema.Schema.{Schema}
use Rattle.rh_domain.specs.declared.fact.FactAt.{FactAt}
use Rattle.rh_domain.specs.Binding.{domain_of}
use Rattle.rh_domain.specs.Count.{fact_count}
use Rattle.rh_domain.specs.Facts.{facts_of}

-- how many words hold so many bits
abbrev pub width_of : ℕ → ℕ
width_of count = (count + 63) / 64

-- how many facts there are on an edge of a procedure
abbrev pub count_on : List Schema → Proc → ℕ
count_on schemas proc = fact_count (domain_of proc) schemas

-- how many words the edges of procedures have
abbrev pub word_count : List Schema → List Proc → ℕ
word_count schemas [] = 0
word_count schemas (proc ∷ procs) = length (edges_of proc) * width_of (count_on schemas proc) + word_count schemas procs

-- the bit of a fact: the edges stand procedure by procedure in their order, each with its own words, and the facts of an
-- edge in these by their number
pub record IsBitOf (schemas : List Schema) (procs : List Proc) (bit : ℕ) (fact : FactAt) : Type 0 where
  pub proc : Proc
  pub edge : ℕ
  pub number : ℕ
  pub proc_at : slice_get procs fact.proc ≡ Some proc
  pub edge_at : slice_get (edges_of proc) edge ≡ Some fact.edge
  pub fact_at : slice_get (facts_of schemas proc) number ≡ Some fact.fact
  pub bit_is : bit ≡ 64 * (word_count schemas (take fact.proc procs) + edge * width_of (count_on schemas proc)) + number

-- the word with this number of an edge with so many facts, all of whose facts stand in it
abbrev pub full_word : ℕ → ℕ → ℕ
full_word count word = 2 ^ min 64 (count - 64 * word) - 1

-- the words of an edge with so many facts
abbrev pub full_edge : ℕ → List ℕ
full_edge count = map (full_word count) (range_with_len 0 (width_of count))

-- the words of the edges of a procedure
abbrev pub full_proc : List Schema → Proc → List ℕ
full_proc schemas proc = flat_map (λ (edge : Edge). full_edge (count_on schemas proc)) (edges_of proc)

-- the words in which every fact stands
abbrev pub full_words : List Schema → List Proc → List ℕ
full_words schemas procs = flat_map (full_proc schemas) procs

-- whether a bit is one of the full words
abbrev pub is_full_at : List Schema → List Proc → ℕ → Bool
is_full_at schemas procs bit = bit_at (slice_index (full_words schemas procs) (bit / 64)) (bit % 64) == 1
