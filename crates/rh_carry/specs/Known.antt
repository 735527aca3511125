-- A fact by its number on the edges of a procedure.
use Rattle.std.specs.Prelude.{ℕ, ◌≡◌, ◌+◌, ◌*◌, ◌/◌, ◌%◌, Bool, List, Some, slice_get}
use Rattle.std.specs.List.{list_all}
use Rattle.rh_il.specs.declared.program.Edge.{Edge}
use Rattle.rh_layout.specs.declared.laid.LaidProc.{LaidProc}
use Rattle.rh_layout.specs.Entering.{entering_at}
use Rattle.rh_layout.specs.Layout.{edge_with, place_in_edge}
use Rattle.rh_system.specs.Bits.{BitSet}

-- the number among the facts of an edge of the fact that a bit of the procedure stands for
abbrev pub number_at : LaidProc → ℕ → ℕ
number_at laid bit = 64 * place_in_edge laid (bit / 64) + bit % 64

-- the bit of the fact with a number on the edge with a number
abbrev pub bit_on : LaidProc → ℕ → ℕ → ℕ
bit_on laid number edge = 64 * (laid.first_word + edge * laid.width) + number

-- the fact with the number is known on each of the edges
abbrev pub known_on_all : LaidProc → BitSet → ℕ → List ℕ → Bool
known_on_all laid set number edges = list_all (λ edge. set (bit_on laid number edge)) edges

-- the answer tells whether the fact of the bit is known on the edges that enter the node that the bit's edge leaves
abbrev pub IsBeforeIn : LaidProc → BitSet → ℕ → Bool → Type 0
IsBeforeIn laid set bit answer =
    (edge : Edge) (entering : List ℕ) → slice_get laid.edges (edge_with laid (bit / 64)) ≡ Some edge → entering_at laid.entering edge.node ≡ Some entering
    → answer ≡ known_on_all laid set (number_at laid bit) entering
