-- What a layout has to say of the facts on the edges of a program.
use Rattle.std.specs.Prelude.{ℕ, ◌≡◌, ◌+◌, ◌-◌, ◌*◌, ◌/◌, ◌%◌, ◌<◌, ◌≤◌, Bool, ◌&&◌, nat_le, nat_lt, List, Some, length, take, slice_get}
use Rattle.rh_list.specs.Each.{Each, EachBefore}
use Rattle.rh_il.specs.declared.program.Edge.{Edge}
use Rattle.rh_il.specs.declared.program.Proc.{Proc}
use Rattle.rh_il.specs.Flow.{edges_of}
use Rattle.rh_rule.specs.declared.schema.Schema.{Schema}
use Rattle.rh_domain.specs.declared.fact.GroundFact.{GroundFact}
use Rattle.rh_layout.specs.declared.layout.Layout.{Layout}
use Rattle.rh_layout.specs.declared.laid.LaidProc.{LaidProc}
use Rattle.rh_layout.specs.declared.laid.LayoutFault.{LayoutFault}
use Rattle.rh_layout.specs.declared.laid.LayoutFault.TheVariants.{NoMemory, TooManyFacts, TooManyWords}
use Rattle.rh_domain.specs.Binding.{domain_of}
use Rattle.rh_layout.specs.Bits.{IsBitOf, count_on, width_of, word_count}
use Rattle.rh_layout.specs.Entering.{AreEntering}
use Rattle.rh_domain.specs.Count.{AreFew, IsSmall}
use Rattle.rh_domain.specs.First.{AreFirsts}

-- a procedure has no more facts than it may have
abbrev pub HasFewFacts : List Schema → Proc → Type 0
HasFewFacts schemas proc = count_on schemas proc ≤ 65536

-- the first procedure with too many facts, and how many it has
pub record IsCrowded (schemas : List Schema) (procs : List Proc) (number count : ℕ) : Type 0 where
  pub proc : Proc
  pub proc_at : slice_get procs number ≡ Some proc
  pub count_is : count ≡ count_on schemas proc
  pub many : 65536 < count
  pub first : EachBefore (HasFewFacts schemas) procs number

-- no procedure has too many facts, but together they have too many words
pub record IsTooWide (schemas : List Schema) (procs : List Proc) (count : ℕ) : Type 0 where
  pub few_facts : Each (HasFewFacts schemas) procs
  pub count_is : count ≡ word_count schemas procs
  pub many : 2097152 < count

-- what keeps procedures from having a layout
abbrev pub IsFaultOf : List Schema → List Proc → LayoutFault → Type 0
IsFaultOf schemas procs (TooManyFacts number count) = IsCrowded schemas procs number count
IsFaultOf schemas procs (TooManyWords count) = IsTooWide schemas procs count
IsFaultOf schemas procs NoMemory = Unit {0}

-- what keeps the procedure with this number from having a part in a layout
abbrev pub IsFaultAt : List Schema → ℕ → Proc → LayoutFault → Type 0
IsFaultAt schemas number proc (TooManyFacts at count) = (at ≡ number) × (count ≡ count_on schemas proc) × (65536 < count)
IsFaultAt schemas number proc (TooManyWords count) = ⊥
IsFaultAt schemas number proc NoMemory = Unit {0}

-- the part of a layout on a procedure whose words begin with this one
pub record IsLaidProc (schemas : List Schema) (proc : Proc) (first_word : ℕ) (laid : LaidProc) : Type 0 where
  pub domain_is : laid.domain ≡ domain_of proc
  pub small : IsSmall (domain_of proc)
  pub firsts_are : AreFirsts (domain_of proc) schemas laid.firsts
  pub facts_is : laid.facts ≡ count_on schemas proc
  pub few_facts : count_on schemas proc ≤ 65536
  pub width_is : laid.width ≡ width_of (count_on schemas proc)
  pub edges_are : laid.edges ≡ edges_of proc
  pub entering_are : AreEntering proc laid.entering
  pub first_is : laid.first_word ≡ first_word
  pub next_is : laid.next_word ≡ first_word + length (edges_of proc) * width_of (count_on schemas proc)

-- each of these is the part on the procedure with its number
abbrev pub AreLaid : List Schema → List Proc → List LaidProc → Type 0
AreLaid schemas procs laid = (number : ℕ) (proc : Proc) (part : LaidProc) → slice_get procs number ≡ Some proc → slice_get laid number ≡ Some part
    → IsLaidProc schemas proc (word_count schemas (take number procs)) part

-- the layout of procedures, which have no more facts and words than they may have
pub record IsLayoutOf (schemas : List Schema) (procs : List Proc) (layout : Layout) : Type 0 where
  pub few_schemas : AreFew schemas
  pub few_procs : length procs ≤ 256
  pub few_facts : Each (HasFewFacts schemas) procs
  pub few_words : word_count schemas procs ≤ 2097152
  pub length_is : length layout.procs ≡ length procs
  pub laid : AreLaid schemas procs layout.procs
  pub words_are : layout.words ≡ word_count schemas procs

-- whether a word is one of the procedure's
abbrev pub has_word : ℕ → LaidProc → Bool
has_word word laid = nat_le laid.first_word word && nat_lt word laid.next_word

-- the number of the edge that a word of the procedure is on
abbrev pub edge_with : LaidProc → ℕ → ℕ
edge_with laid word = (word - laid.first_word) / laid.width

-- the number of the word among those of its edge
abbrev pub place_in_edge : LaidProc → ℕ → ℕ
place_in_edge laid word = (word - laid.first_word) % laid.width

-- the bit of a fact on the edge with a number among those of a procedure
pub record IsBitOn (schemas : List Schema) (procs : List Proc) (proc edge : ℕ) (fact : GroundFact) (bit : ℕ) : Type 0 where
  pub shape : Proc
  pub shape_at : slice_get procs proc ≡ Some shape
  pub on : Edge
  pub on_at : slice_get (edges_of shape) edge ≡ Some on
  pub is : IsBitOf schemas procs bit (record { proc = proc; edge = on; fact = fact })
