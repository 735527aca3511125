-- Where a layout finds no fact of a bit, the bit stands for none.
use Rattle.std.proofs.Common.{ℕ, ◌≡◌, List, Option, Some, None, subst}
use Rattle.std.specs.Prelude.{IfNone}
use Rattle.rh_il.specs.declared.program.Proc.{Proc}
use Rattle.rh_rule.specs.declared.schema.Schema.{Schema}
use Rattle.rh_domain.specs.declared.fact.FactAt.{FactAt}
use Rattle.rh_layout.specs.declared.layout.Layout.{Layout}
use Rattle.rh_layout.specs.Bits.{IsBitOf}
use Rattle.rh_layout.specs.Layout.{IsLayoutOf}

abbrev NoneFor : Layout → ℕ → List Schema → Type 0
NoneFor layout bit schemas = (procs : List Proc) → IsLayoutOf schemas procs layout → (fact : FactAt) → ¬ IsBitOf schemas procs bit fact

pub no_fact : (layout : Layout) (bit : ℕ) (given schemas : List Schema) (procs : List Proc) (result : Option FactAt) → given ≡ schemas → IsLayoutOf schemas procs layout
    → IfNone result ((others : List Proc) → IsLayoutOf given others layout → (fact : FactAt) → ¬ IsBitOf given others bit fact) → IfNone result ((fact : FactAt) → ¬ IsBitOf schemas procs bit fact)
no_fact layout bit given schemas procs None same laid none = subst (NoneFor layout bit) same none procs laid
no_fact layout bit given schemas procs (Some fact) same laid none = tt
