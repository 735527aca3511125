-- The lines of facts, by the numbers of the facts.
use Rattle.std.specs.Prelude.{ℕ, zero, suc, ◌≡◌, ◌+◌, ◌*◌, ◌≤◌, Bool, List, [], ◌++◌, Some, codes, filter, length, slice_get, take, if◌then◌else◌}
use Rattle.std.specs.List.{flat_map}
use Rattle.std.specs.Option.{option_map_or}
use Rattle.rh_il.specs.declared.program.Edge.{Edge}
use Rattle.rh_il.specs.declared.program.Proc.{Proc}
use Rattle.rh_il_print.specs.Text.{proc_name}
use Rattle.rh_rule.specs.declared.schema.Schema.{Schema}
use Rattle.rh_rule_print.specs.Text.{slot_text}
use Rattle.rh_domain.specs.declared.domain.Domain.{Domain}
use Rattle.rh_domain.specs.declared.fact.FactAt.{FactAt}
use Rattle.rh_domain.specs.Count.{AreFew, IsSmall}
use Rattle.rh_domain.specs.Facts.{Known, facts_over}
use Rattle.rh_domain.specs.First.{AreFirsts}
use Rattle.rh_layout.specs.declared.laid.LaidProc.{LaidProc}
use Rattle.rh_layout.specs.Bits.{word_count}
use Rattle.rh_layout.specs.Layout.{IsLaidProc}
use Rattle.rh_report.specs.Output.{fact_line, node_text}

-- what stands before a fact: its procedure and its edge
abbrev pub place_text : List Proc → ℕ → Edge → List ℕ
place_text procs proc edge = codes "# fact " ++ proc_name procs proc ++ codes " " ++ node_text edge.node ++ codes "." ++ slot_text edge.slot

-- the line of the fact with a number on an edge, where there is one
abbrev pub line_at : List Schema → List Proc → Domain → ℕ → Edge → ℕ → List ℕ
line_at schemas procs domain place edge number =
    option_map_or (λ fact. fact_line schemas procs (record { proc = place; edge = edge; fact = fact })) (slice_get (facts_over domain schemas) number) []

-- the texts of the numbers that pass a test, of so many numbers from one on
unfoldable pub texts_of : (ℕ → Bool) → (ℕ → List ℕ) → ℕ → ℕ → List ℕ
texts_of test text from zero = []
texts_of test text from (suc count) = (if test from then text from else []) ++ texts_of test text (from + 1) count

-- the lines of those facts that are known
abbrev pub lines_of : List Schema → List Proc → Known → List FactAt → List ℕ
lines_of schemas procs known facts = flat_map (fact_line schemas procs) (filter known facts)

-- the part of a program's layout on the procedure with a number
pub record IsPartOf (schemas : List Schema) (procs : List Proc) (place : ℕ) (laid : LaidProc) : Type 0 where
  pub proc : Proc
  pub proc_at : slice_get procs place ≡ Some proc
  pub part : IsLaidProc schemas proc (word_count schemas (take place procs)) laid
  pub few : AreFew schemas
  pub small : IsSmall laid.domain
  pub firsts : AreFirsts laid.domain schemas laid.firsts
  pub narrow : laid.width ≤ 1024
  pub room : laid.first_word + length laid.edges * laid.width ≤ 2097152
