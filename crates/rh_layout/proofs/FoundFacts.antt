-- The fact of a bit, as a layout has it.
use Rattle.std.proofs.Common.{ℕ, ◌≡◌, ◌+◌, ◌*◌, ◌/◌, ◌%◌, List, Option, Some, None, refl, ap, sym, ◌∙◌, subst, arith}
use Rattle.std.specs.List.{position}
use Rattle.std.specs.Option.{option_map}
use Rattle.std.specs.Prelude.{IfNone, IfSome, slice_get}
use Rattle.rh_il.specs.declared.program.Edge.{Edge}
use Rattle.rh_il.specs.declared.program.Proc.{Proc}
use Rattle.rh_rule.specs.declared.schema.Schema.{Schema}
use Rattle.rh_domain.specs.declared.domain.Domain.{Domain}
use Rattle.rh_domain.specs.declared.fact.FactAt.{FactAt}
use Rattle.rh_domain.specs.declared.fact.GroundFact.{GroundFact}
use Rattle.rh_layout.specs.declared.laid.LaidProc.{LaidProc}
use Rattle.rh_layout.specs.declared.layout.Layout.{Layout}
use Rattle.rh_layout.specs.Bits.{IsBitOf}
use Rattle.rh_domain.specs.Count.{IsSmall}
use Rattle.rh_domain.specs.First.{AreFirsts}
use Rattle.rh_layout.specs.Layout.{IsLaidProc, IsLayoutOf, edge_with, has_word, place_in_edge}
use Rattle.rh_domain.specs.Facts.{facts_of, facts_over}
use Rattle.rh_layout.proofs.FactBits.{bit_at_place, none_at_place, none_past}
use Rattle.rh_layout.proofs.LaidWords.{IsIn, not_found}

-- what holds of a value, or where there is none, for all procedures of a kind
module _ {X : Type 0} (Fits : List Proc → Type 0) where
  pub some_for_all : (result : Option X) (P : List Proc → X → Type 0) → ((procs : List Proc) → Fits procs → IfSome result (P procs)) → IfSome result (λ x. (procs : List Proc) → Fits procs → P procs x)
  some_for_all None P each = tt
  some_for_all (Some x) P each = each

  pub none_for_all : (result : Option X) (P : List Proc → Type 0) → ((procs : List Proc) → Fits procs → IfNone result (P procs)) → IfNone result ((procs : List Proc) → Fits procs → P procs)
  none_for_all None P each = each
  none_for_all (Some x) P each = tt

module _ (schemas : List Schema) (procs : List Proc) (layout : Layout) (bit place : ℕ) (laid : LaidProc) (at : IsIn schemas procs layout (bit / 64) place laid) where
  abbrev number : ℕ
  number = 64 * place_in_edge laid (bit / 64) + bit % 64

  abbrev as_fact : GroundFact → FactAt
  as_fact fact = record { proc = place; edge = at.edge; fact = fact }

  -- the answer is the fact with this number, on this edge
  abbrev pub AnswersFact : Option FactAt → Type 0
  AnswersFact result = (edge : Edge) → slice_get laid.edges (edge_with laid (bit / 64)) ≡ Some edge
      → result ≡ option_map (λ fact. record { proc = place; edge = edge; fact = fact }) (slice_get (facts_over laid.domain schemas) number)

  answer : (result : Option FactAt) → AnswersFact result → result ≡ option_map as_fact (slice_get (facts_of schemas at.proc) number)
  answer result is = is at.edge at.edge_at ∙ ap (λ (d : Domain). option_map as_fact (slice_get (facts_over d schemas) number)) at.part.domain_is

  some_by : (o : Option GroundFact) → slice_get (facts_of schemas at.proc) number ≡ o → IfSome (option_map as_fact o) (λ fact. IsBitOf schemas procs bit fact)
  some_by None read = tt
  some_by (Some fact) read = bit_at_place schemas procs bit place at.proc (edge_with laid (bit / 64)) (place_in_edge laid (bit / 64)) at.edge fact at.is_at read

  none_by : (o : Option GroundFact) → slice_get (facts_of schemas at.proc) number ≡ o → IfNone (option_map as_fact o) ((fact : FactAt) → IsBitOf schemas procs bit fact → ⊥)
  none_by (Some fact) read = tt
  none_by None read = none_at_place schemas procs bit place at.proc (edge_with laid (bit / 64)) (place_in_edge laid (bit / 64)) at.edge at.is_at read

  pub answers_some : (result : Option FactAt) → AnswersFact result → IfSome result (λ fact. IsBitOf schemas procs bit fact)
  answers_some result is = subst (λ (r : Option FactAt). IfSome r (λ fact. IsBitOf schemas procs bit fact)) (sym (answer result is)) (some_by (slice_get (facts_of schemas at.proc) number) refl)

  pub answers_none : (result : Option FactAt) → AnswersFact result → IfNone result ((fact : FactAt) → IsBitOf schemas procs bit fact → ⊥)
  answers_none result is = subst (λ (r : Option FactAt). IfNone r ((fact : FactAt) → IsBitOf schemas procs bit fact → ⊥)) (sym (answer result is)) (none_by (slice_get (facts_of schemas at.proc) number) refl)

-- a bit of no procedure is that of no fact
pub none_past_all : (schemas : List Schema) (procs : List Proc) (layout : Layout) (bit : ℕ) → IsLayoutOf schemas procs layout → (result : Option FactAt) → position (has_word (bit / 64)) layout.procs ≡ None
    → IfNone result ((fact : FactAt) → IsBitOf schemas procs bit fact → ⊥)
none_past_all schemas procs layout bit is (Some fact) none = tt
none_past_all schemas procs layout bit is None none = λ fact bit_is.
    let past = not_found schemas procs layout (bit / 64) is none in
    let below = none_past schemas procs bit fact bit_is in
    absurd (omega (arith, past, below))

-- what the facts of a procedure are asked by
pub record IsAsked (schemas : List Schema) (laid : LaidProc) : Type 0 where
  pub small : IsSmall laid.domain
  pub firsts : AreFirsts laid.domain schemas laid.firsts

pub asked : (schemas : List Schema) (proc : Proc) (first : ℕ) (laid : LaidProc) → IsLaidProc schemas proc first laid → IsAsked schemas laid
asked schemas proc first laid part = record {
  small = subst (λ (d : Domain). IsSmall d) (sym part.domain_is) part.small;
  firsts = subst (λ (d : Domain). AreFirsts d schemas laid.firsts) (sym part.domain_is) part.firsts_are;
}
