-- A parser's stack, and the facts that its steps keep.
use Rattle.std.specs.Prelude.{◌≡◌, ℕ, List, ◌++◌, reverse, Some}
use Rattle.rh_grammar.specs.declared.grammar.Symbol.{Symbol}
use Rattle.rh_grammar.specs.declared.grammar.Grammar.{Grammar}
use Rattle.rh_grammar.specs.Tables.{production_at}

-- the symbols of the alternative are put on the stack, the first of them last
abbrev pub Pushes : Grammar → ℕ → ℕ → List Symbol → List Symbol → Type 0
Pushes g rule number old new = (to : List Symbol) → production_at g rule number ≡ Some to → reverse new ≡ to ++ reverse old
