-- The laws on whole runs, from those on one step.
use Rattle.std.proofs.Common.{ℕ, zero, suc, ℤ, ◌≡◌, ◌≢◌, List, Some, None, IsTrue, refl, ap, sym, ◌∙◌, subst}
use Rattle.std.specs.Option.{option_and_then, option_map_or}
use Rattle.std.specs.Prelude.{false, slice_get}
use Rattle.rh_il.specs.declared.program.Edge.{Edge}
use Rattle.rh_il.specs.declared.program.Proc.{Proc}
use Rattle.rh_il.specs.declared.value.Value.{Value}
use Rattle.rh_il.specs.Value.{IsNumber}
use Rattle.rh_il_step.specs.declared.frame.Frame.{Frame}
use Rattle.rh_il_step.specs.Run.{Returns, next, run}
use Rattle.rh_il_step.specs.State.{State}
use Rattle.rh_il_step.specs.Step.{Outcome, Went, Returned, Stuck, step}
use Rattle.rh_rule.specs.declared.rule.Ruling.{Ruling}
use Rattle.rh_rule.specs.RuleFiles.{Rules}
use Rattle.rh_domain.specs.Facts.{Known}
use Rattle.rh_domain.specs.declared.fact.FactAt.{FactAt}
use Rattle.rh_meaning.specs.Holds.{holds_in}
use Rattle.rh_lift.specs.Runs.{FactsHoldInRuns, ReturnsKept, StepsKept}
use Rattle.rh_lift.specs.Standing.{FactsHold, IsProvedSet}
use Rattle.rh_lift.proofs.Invariant.{FramesInvariant, Invariant, next_went, run_keeps}
use Rattle.rh_lift.proofs.SameSteps.{after, start_same, step_same}

pub facts_hold_in_runs : FactsHoldInRuns
facts_hold_in_runs file rulings procs known state fact proved reached reaches is_known =
    let fine : Invariant file.schemas known procs state = run_keeps file rulings procs known proved reached.arg reached.number reached.steps state reached.reached in
    let top : Frame = reaches.top in
    let at_top : FactsHold file.schemas known top.proc top.edge top.base state.cells =
    (subst (λ frames. FramesInvariant file.schemas known procs frames state.cells) reaches.frames fine.frames).0 in
    let there : record { proc = top.proc; edge = top.edge; fact = fact.fact } ≡ fact = same_fact top.proc top.edge fact reaches.proc_is reaches.edge_is in
    subst (λ frames. IsTrue (option_map_or (λ schema. holds_in frames state.cells schema fact.fact.args) (slice_get file.schemas fact.fact.schema) false)) (sym reaches.frames)
    (at_top fact.fact (subst (λ (f : FactAt). IsTrue (known f)) (sym there) is_known))
  where
    same_fact : (place : ℕ) (edge : Edge) (f : FactAt) → place ≡ f.proc → edge ≡ f.edge → record { proc = place; edge = edge; fact = f.fact } ≡ f
    same_fact place edge f proc_is edge_is = λ i. record { proc = proc_is i; edge = edge_is i; fact = f.fact }

pub steps_kept : StepsKept
steps_kept file rulings procs known state proved reached moves =
    step_same file rulings procs known proved state (run_keeps file rulings procs known proved reached.arg reached.number reached.steps state reached.reached) moves

module _ (file : Rules) (rulings : List Ruling) (procs : List Proc) (known : Known) (proved : IsProvedSet file rulings procs known) where
  abbrev others : List Proc
  others = after file rulings procs known proved

  went_moves : (outcome : Outcome) (state : State) → outcome ≡ Went state → outcome ≢ Stuck
  went_moves outcome state went stuck = cc

  return_moves : (outcome : Outcome) (value : Value) → outcome ≡ Returned value → outcome ≢ Stuck
  return_moves outcome value returned stuck = cc

  -- the run of the rewritten program reaches the same states
  run_same : (arg : ℤ) → IsNumber arg → (steps : ℕ) (state : State) → run procs arg steps ≡ Some state → run others arg steps ≡ Some state
  run_same arg fits zero state is = ap Some (start_same file rulings procs known proved arg) ∙ is
  run_same arg fits (suc steps) state is =
      elim (run procs arg steps) as (λ o. run procs arg steps ≡ o → option_and_then (λ s. next (step procs s)) o ≡ Some state → run others arg (suc steps) ≡ Some state) [
        | None ↦ λ at told. cc
        | Some before ↦ λ at told.
            let fine : Invariant file.schemas known procs before = run_keeps file rulings procs known proved arg fits steps before at in
            let moves : step procs before ≢ Stuck = went_moves (step procs before) state (next_went (step procs before) state told) in
            let same : step others before ≡ step procs before = step_same file rulings procs known proved before fine moves in
            ap (option_and_then (λ s. next (step others s))) (run_same arg fits steps before at) ∙ ap next same ∙ told
      ] refl is

  returned : (arg : ℤ) (value : Value) (bound : ℕ) → IsNumber arg → Returns procs arg value bound → Returns others arg value bound
  returned arg value bound fits returns =
      record {
        steps = returns.steps;
        within = returns.within;
        state = returns.state;
        reached = run_same arg fits returns.steps returns.state returns.reached;
        returned = step_same file rulings procs known proved returns.state (run_keeps file rulings procs known proved arg fits returns.steps returns.state returns.reached)
            (return_moves _ value returns.returned) ∙ returns.returned;
      }

pub returns_kept : ReturnsKept
returns_kept file rulings procs known arg value bound proved fits returns = returned file rulings procs known proved arg value bound fits returns
