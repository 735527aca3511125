-- A fact that is known on the edges before a node.
use Rattle.std.proofs.Common.{ℕ, zero, suc, ◌≡◌, ◌<◌, ◌≤◌, ◌==◌, ◌&&◌, Bool, true, false, List, [], ◌∷◌, length, Option, Some, None, refl, ap, sym, ◌∙◌, arith}
use Rattle.std.specs.List.{flat_map, list_all}
use Rattle.std.specs.Option.{option_map_or}
use Rattle.std.specs.Prelude.{slice_get}
use Rattle.std.proofs.lemmas.Bool.{ne_eqb}
use Rattle.std.proofs.lemmas.List.Folds.{list_all-append, list_all-map}
use Rattle.std.proofs.lemmas.Option.{same_Some}
use Rattle.rh_list.proofs.AtPlace.{has_at}
use Rattle.rh_il.specs.declared.program.Edge.{Edge}
use Rattle.rh_il.specs.declared.program.Node.{Node}
use Rattle.rh_il.specs.declared.program.Node.TheVariants.{Entry, At}
use Rattle.rh_il.specs.declared.program.Proc.{Proc}
use Rattle.rh_il.specs.Flow.{edges_of}
use Rattle.rh_rule.specs.declared.schema.Param.{Param}
use Rattle.rh_rule.specs.declared.schema.Schema.{Schema}
use Rattle.rh_domain.specs.declared.domain.Domain.{Domain}
use Rattle.rh_domain.specs.declared.fact.FactAt.{FactAt}
use Rattle.rh_domain.specs.declared.fact.GroundFact.{GroundFact}
use Rattle.rh_domain.specs.Binding.{Binding, bindings_in, domain_of}
use Rattle.rh_domain.specs.Count.{AreFew}
use Rattle.rh_domain.proofs.FactNumbers.{fact_stands}
use Rattle.rh_domain.proofs.Joined.{apart}
use Rattle.rh_ground.specs.Rows.{edges_before, on_edges}
use Rattle.rh_layout.specs.Bits.{IsBitOf}
use Rattle.rh_layout.specs.Entering.{numbers_before}
use Rattle.rh_layout.specs.Layout.{IsBitOn}
use Rattle.rh_layout.proofs.EnteringEdges.{tested_at}
use Rattle.rh_system.specs.Bits.{BitSet}
use Rattle.rh_rows.specs.BitRows.{bit_of}
use Rattle.rh_rows.specs.Known.{is_fact_of, known_by, known_on}
use Rattle.rh_rows.proofs.BitNumbers.{bit_is}
use Rattle.rh_rows.proofs.ProgramFacts.{has_bit, is_fact}

-- ---- tests of lists

pub all_in_pieces : {X Y : Type 0} (test : Y → Bool) (piece : X → List Y) (xs : List X) → list_all (λ x. list_all test (piece x)) xs ≡ list_all test (flat_map piece xs)
all_in_pieces test piece [] = refl
all_in_pieces test piece (x ∷ xs) = ap (λ b. list_all test (piece x) && b) (all_in_pieces test piece xs) ∙ sym (list_all-append test (piece x) (flat_map piece xs))

none_passes : {X : Type 0} (test : X → Bool) (xs : List X) → ((x : X) → test x ≡ false) → (length xs == 0) ≡ list_all test xs
none_passes test [] fails = refl
none_passes test (x ∷ xs) fails = ne_eqb (suc (length xs)) 0 (λ same. absurd (omega (arith, same))) ∙ sym (ap (λ b. b && list_all test xs) (fails x))

-- ---- facts with many arguments

args_as_params : (domain : Domain) (params : List Param) (number : ℕ) (args : Binding) → slice_get (bindings_in domain params) number ≡ Some args → length args ≡ length params
args_as_params domain [] zero args read = ap length (sym (same_Some [] args read))
args_as_params domain [] (suc number) args read = absurd cc
args_as_params domain (param ∷ params) number args read =
    let parts = apart domain param params number args read in
    ap length parts.whole ∙ ap suc (args_as_params domain params parts.left parts.rest parts.others)

pub few_args : (schemas : List Schema) (procs : List Proc) → AreFew schemas → (bit : ℕ) (fact : FactAt) → IsBitOf schemas procs bit fact → length fact.fact.args ≤ 6
few_args schemas procs few bit fact is =
    let stands = fact_stands (domain_of is.proc) schemas is.number fact.fact is.fact_at in
    let size = args_as_params (domain_of is.proc) stands.shape.params stands.within fact.fact.args stands.args_at in
    let most = has_at (λ (schema : Schema). length schema.params ≤ 6) schemas fact.fact.schema stands.shape few.params_few stands.shape_at in
    omega (arith, size, most)

module _ (schemas : List Schema) (procs : List Proc) (set : BitSet) where
  -- what has no bit is not known
  unknown : (fact : FactAt) → ((bit : ℕ) → IsBitOf schemas procs bit fact → ⊥) → known_by schemas procs set fact ≡ false
  unknown fact none =
      elim (is_fact_of schemas procs fact) as (λ b. is_fact_of schemas procs fact ≡ b → (b && set (bit_of schemas procs fact)) ≡ false) [
        | true ↦ λ is. let has = has_bit schemas procs fact is in absurd (none has.0 has.1)
        | false ↦ λ is. refl
      ] refl

  known : (bit : ℕ) (fact : FactAt) → IsBitOf schemas procs bit fact → set bit ≡ known_by schemas procs set fact
  known bit fact is = ap set (bit_is schemas procs bit fact is) ∙ sym (ap (λ b. b && set (bit_of schemas procs fact)) (is_fact schemas procs fact (bit, is)))

  module _ (place : ℕ) (proc : Proc) (proc_at : slice_get procs place ≡ Some proc) where
    pub known_by_bit : (fact : GroundFact) (edge bit : ℕ) → IsBitOn schemas procs place edge fact bit → set bit ≡ known_on schemas procs set place proc fact edge
    known_by_bit fact edge bit on =
        let same : on.shape ≡ proc = same_Some on.shape proc (sym on.shape_at ∙ proc_at) in
        let at : slice_get (edges_of proc) edge ≡ Some on.on = ap (λ (p : Proc). slice_get (edges_of p) edge) (sym same) ∙ on.on_at in
        known bit (record { proc = place; edge = on.on; fact = fact }) on.is
        ∙ sym (ap (λ found. option_map_or (λ e. known_by schemas procs set (record { proc = place; edge = e; fact = fact })) found false) at)

    -- where no edge gives the fact a bit, it is known on none
    pub known_nowhere : (fact : GroundFact) (edge : ℕ) → ((bit : ℕ) → IsBitOn schemas procs place edge fact bit → ⊥) → known_on schemas procs set place proc fact edge ≡ false
    known_nowhere fact edge none = by (slice_get (edges_of proc) edge) refl
      where
        by : (o : Option Edge) → slice_get (edges_of proc) edge ≡ o → option_map_or (λ e. known_by schemas procs set (record { proc = place; edge = e; fact = fact })) o false ≡ false
        by None at = refl
        by (Some on) at = unknown (record { proc = place; edge = on; fact = fact }) (λ bit is. none bit (record { shape = proc; shape_at = proc_at; on = on; on_at = at; is = is }))

    pub known_before : (node : Node) (entering : List ℕ) (fact : GroundFact) → entering ≡ numbers_before proc node
        → list_all (known_on schemas procs set place proc fact) entering ≡ list_all (known_by schemas procs set) (on_edges place (edges_before proc node) fact)
    known_before Entry entering fact are = ap (list_all (known_on schemas procs set place proc fact)) are
    known_before (At number) entering fact are =
        ap (list_all (known_on schemas procs set place proc fact)) are
        ∙ tested_at (λ e. known_by schemas procs set (record { proc = place; edge = e; fact = fact })) proc number
        ∙ sym (list_all-map (known_by schemas procs set) (λ (e : Edge). record { proc = place; edge = e; fact = fact }) (edges_before proc (At number)))

    pub many_unknown : AreFew schemas → (node : Node) (entering : List ℕ) (fact : GroundFact) → 6 < length fact.args → entering ≡ numbers_before proc node
        → (length entering == 0) ≡ list_all (known_by schemas procs set) (on_edges place (edges_before proc node) fact)
    many_unknown few node entering fact many are =
        none_passes (known_on schemas procs set place proc fact) entering
        (λ edge. known_nowhere fact edge (λ bit on. let most = few_args schemas procs few bit (record { proc = place; edge = on.on; fact = fact }) on.is in absurd (omega (arith, most, many))))
        ∙ known_before node entering fact are
