-- The node of a procedure as the layout has it.
use Rattle.std.proofs.Common.{ℕ, ◌≡◌, ◌&&◌, false, List, [], Option, Some, None, refl, ap, sym, ◌∙◌, subst, arith}
use Rattle.std.specs.List.{list_all}
use Rattle.std.specs.Option.{option_map_or}
use Rattle.std.specs.Prelude.{IfNone, slice_get}
use Rattle.std.proofs.lemmas.Option.{same_Some, slice_get_within}
use Rattle.rh_list.proofs.AtPlace.{read_at}
use Rattle.rh_il.specs.declared.program.Node.{Node}
use Rattle.rh_il.specs.declared.program.Node.TheVariants.{Entry, At}
use Rattle.rh_il.specs.declared.program.Proc.{Proc}
use Rattle.rh_il.specs.declared.program.Stmt.{Stmt}
use Rattle.rh_rule.specs.declared.rule.Rule.{Rule}
use Rattle.rh_rule.specs.declared.schema.Schema.{Schema}
use Rattle.rh_domain.specs.Binding.{Binding}
use Rattle.rh_domain.specs.Count.{IsSmall}
use Rattle.rh_domain.specs.declared.domain.Domain.{Domain}
use Rattle.rh_ground.specs.Instance.{is_conclusion_in_domain, is_fact_in_domain, is_instance, side_holds}
use Rattle.rh_ground.specs.Match.{matches}
use Rattle.rh_layout.specs.declared.laid.LaidProc.{LaidProc}
use Rattle.rh_layout.specs.declared.layout.Layout.{Layout}
use Rattle.rh_layout.specs.Entering.{AreEntering, entering_at, numbers_before}
use Rattle.rh_layout.specs.Layout.{IsLayoutOf}
use Rattle.rh_rows.specs.Site.{IsBare, IsSite}

-- the list for a node has the numbers of the edges before it
before_at : (proc : Proc) (entering : List (List ℕ)) (node : Node) (numbers : List ℕ) → AreEntering proc entering → entering_at entering node ≡ Some numbers → numbers ≡ numbers_before proc node
before_at proc entering Entry numbers are read = sym (same_Some [] numbers read)
before_at proc entering (At number) numbers are read = are.each number numbers read

-- where there is no list, there is no statement
no_stmt : (proc : Proc) (entering : List (List ℕ)) (number : ℕ) → AreEntering proc entering → slice_get entering number ≡ None → slice_get proc.body number ≡ None
no_stmt proc entering number are none = by (slice_get proc.body number) refl
  where
    by : (o : Option Stmt) → slice_get proc.body number ≡ o → slice_get proc.body number ≡ None
    by None is = is
    by (Some stmt) is =
        (let below = slice_get_within proc.body number stmt is in
        let many = are.many in
        let list = read_at entering number (omega (arith, below, many)) in
        let clash : None ≡ Some list.0 = sym none ∙ list.1 in
        absurd cc)

-- and no rule is about it
none_about : (proc : Proc) (rule : Rule) (binding : Binding) (entering : List (List ℕ)) (node : Node) → AreEntering proc entering → entering_at entering node ≡ None → is_instance proc rule binding node ≡ false
none_about proc rule binding entering Entry are none = absurd cc
none_about proc rule binding entering (At number) are none =
    ap (λ found. option_map_or (matches binding rule.pattern) found false
    && (list_all (side_holds binding) rule.sides && (list_all (is_fact_in_domain proc) rule.premises && is_conclusion_in_domain proc rule.conclusion))) (no_stmt proc entering number are none)

module _ (schemas : List Schema) (procs : List Proc) (layout : Layout) (place : ℕ) (proc : Proc) (laid : LaidProc) (is : IsLayoutOf schemas procs layout)
    (proc_at : slice_get procs place ≡ Some proc) (laid_at : slice_get layout.procs place ≡ Some laid) where
  pub site_made : (node : Node) (numbers : List ℕ) → entering_at laid.entering node ≡ Some numbers → IsSite schemas procs layout proc laid.domain numbers place node
  site_made node numbers read =
      let part = is.laid place proc laid proc_at laid_at in
      record {
        laid = is;
        proc_at = proc_at;
        domain_is = part.domain_is;
        small = subst (λ (d : Domain). IsSmall d) (sym part.domain_is) part.small;
        entering_are = before_at proc laid.entering node numbers part.entering_are read;
      }

  pub bare : (node : Node) → entering_at laid.entering node ≡ None → IsBare procs place node
  bare node none = λ other rule binding at.
      let same : proc ≡ other = same_Some proc other (sym proc_at ∙ at) in
      none_about other rule binding laid.entering node (subst (λ (p : Proc). AreEntering p laid.entering) same (is.laid place proc laid proc_at laid_at).entering_are) none

-- what holds anyway holds where there is none
pub if_none : {X : Type 0} (found : Option X) (P : Type 0) → P → IfNone found P
if_none None P holds = holds
if_none (Some x) P holds = tt
