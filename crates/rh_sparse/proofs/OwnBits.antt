-- The bit of a fact on an edge, as a layout finds it.
use Rattle.std.proofs.Common.{ℕ, ◌≡◌, ◌<◌, ◌==◌, false, List, length, Option, Some, None, ap, sym, ◌∙◌, arith}
use Rattle.std.specs.Option.{option_map_or}
use Rattle.std.specs.Prelude.{slice_get, IfNone, IfSome}
use Rattle.rh_il.specs.declared.program.Edge.{Edge}
use Rattle.rh_il.specs.declared.program.Proc.{Proc}
use Rattle.rh_il.specs.Flow.{edges_of}
use Rattle.rh_rule.specs.declared.schema.Schema.{Schema}
use Rattle.rh_domain.specs.declared.fact.FactAt.{FactAt}
use Rattle.rh_domain.specs.declared.fact.GroundFact.{GroundFact}
use Rattle.rh_domain.specs.Count.{AreFew}
use Rattle.rh_layout.specs.declared.layout.Layout.{Layout}
use Rattle.rh_layout.specs.Layout.{IsBitOn, IsLayoutOf}
use Rattle.rh_system.specs.Bits.{BitSet}
use Rattle.rh_rows.specs.Known.{known_by, known_on}
use Rattle.rh_rows.proofs.KnownBefore.{few_args, known_by_bit, known_nowhere}
use Rattle.rh_sparse.specs.Candidates.{is_bit_of}

module _ (schemas : List Schema) (procs : List Proc) (place number : ℕ) (proc : Proc) (edge : Edge) (proc_at : slice_get procs place ≡ Some proc) (edge_at : slice_get (edges_of proc) number ≡ Some edge) (fact : GroundFact) where
  abbrev fact_at : FactAt
  fact_at = record { proc = place; edge = edge; fact = fact }

  -- no other bit than this
  abbrev alone : ℕ → BitSet
  alone bit own = own == bit

  on_edge : (bit : ℕ) → known_on schemas procs (alone bit) place proc fact number ≡ is_bit_of schemas procs fact_at bit
  on_edge bit = ap (λ found. option_map_or (λ e. known_by schemas procs (alone bit) (record { proc = place; edge = e; fact = fact })) found false) edge_at

  no_bit : ((bit : ℕ) → ¬ IsBitOn schemas procs place number fact bit) → (bit : ℕ) → false ≡ is_bit_of schemas procs fact_at bit
  no_bit none bit = sym (known_nowhere schemas procs (alone bit) place proc proc_at fact number none) ∙ on_edge bit

  -- a fact with too many arguments has none
  pub many_args : AreFew schemas → 6 < length fact.args → (bit : ℕ) → false ≡ is_bit_of schemas procs fact_at bit
  many_args few many =
      no_bit (λ bit on. let most = few_args schemas procs few bit (record { proc = place; edge = on.on; fact = fact }) on.is in absurd (omega (arith, most, many)))

  -- the bit that a layout finds is the fact's own
  pub bit_told : (layout : Layout) (found : Option ℕ) → IsLayoutOf schemas procs layout
      → IfSome found (λ bit. (others : List Proc) → IsLayoutOf schemas others layout → IsBitOn schemas others place number fact bit)
      → IfNone found ((others : List Proc) → IsLayoutOf schemas others layout → (bit : ℕ) → ¬ IsBitOn schemas others place number fact bit)
      → (bit : ℕ) → option_map_or (λ own. own == bit) found false ≡ is_bit_of schemas procs fact_at bit
  bit_told layout (Some found) laid some none bit = known_by_bit schemas procs (alone bit) place proc proc_at fact number found (some procs laid) ∙ on_edge bit
  bit_told layout None laid some none bit = no_bit (none procs laid) bit
