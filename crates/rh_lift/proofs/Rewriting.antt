-- The statement that takes the place of another makes its step.
use Rattle.std.proofs.Common.{ℕ, ◌≡◌, ◌≢◌, List, length, Option, Some, None, refl}
use Rattle.rh_il.specs.declared.program.Base.{Base}
use Rattle.rh_il.specs.declared.program.Edge.{Edge}
use Rattle.rh_il.specs.declared.program.Node.TheVariants.{At}
use Rattle.rh_il.specs.declared.program.Proc.{Proc}
use Rattle.rh_il.specs.declared.program.Stmt.{Stmt}
use Rattle.rh_il.specs.declared.program.Stmt.TheVariants.{Call}
use Rattle.rh_il.specs.declared.value.Value.{Value}
use Rattle.rh_il_step.specs.declared.frame.Frame.{Frame}
use Rattle.rh_il_step.specs.Step.{Stuck, executed}
use Rattle.rh_rule.specs.declared.rule.Ruling.{Ruling}
use Rattle.rh_rule.specs.RuleFiles.{Rules}
use Rattle.rh_rule.proofs.Passed.{rule_passed}
use Rattle.rh_domain.specs.Facts.{Known}
use Rattle.rh_ground.proofs.Fitting.{binding_fits}
use Rattle.rh_transform.specs.Rewritten.{Candidate, first_applicable}
use Rattle.rh_transform.proofs.Candidates.{IsFirst, first_is}
use Rattle.rh_transform.proofs.Shaped.{by_first, fit_of, pattern_is}
use Rattle.rh_lift.specs.Local.{RewritingKeepsCalls, RewritingSteps}
use Rattle.rh_lift.specs.Standing.{IsProvedSet, Stands}
use Rattle.rh_lift.proofs.Concluded.{Applies}
use Rattle.rh_lift.proofs.Facts.{is_about, premises_at_statement, schemas_pass}
use Rattle.rh_lift.proofs.Models.{at_rest, rest_fits}
use Rattle.rh_lift.proofs.Templates.{call_becomes, kept_by_form}

module _ (file : Rules) (rulings : List Ruling) (procs : List Proc) (known : Known) (set : IsProvedSet file rulings procs known)
    (place : ℕ) (edge : Edge) (base : ℕ) (cells : List Value) (proc : Proc) (number : ℕ) (stmt : Stmt) (at : Stands file.schemas known procs place edge base cells proc number stmt)
    (candidate : Candidate) (first : IsFirst proc file.rules rulings known place number candidate) where
  applies : Applies file.schemas candidate.rule (length proc.vars) candidate.binding base (at_rest cells)
  applies =
      let from = first.from in
      record {
        schemas_passed = schemas_pass file rulings procs known set;
        passed = rule_passed file from.number candidate.rule set.rules from.rule_at;
        sound = set.sound from.number candidate.rule from.rule_at from.admitted;
        fits = binding_fits proc candidate.rule.params candidate.binding (set.numbers place proc at.proc_at) from.bound_by;
        values = rest_fits cells at.safe.held;
        sides = (is_about proc candidate.rule candidate.binding (At number) first.is_instance).sides;
        premises = premises_at_statement file rulings procs known set place edge base cells proc number stmt at candidate.rule candidate.binding first.premises;
      }

by_steps : (file : Rules) (rulings : List Ruling) (procs : List Proc) (known : Known) (top : Frame) (below : List Frame) (cells : List Value) (proc : Proc) (number : ℕ) (stmt : Stmt)
    (first : Option Candidate) → IsProvedSet file rulings procs known → Stands file.schemas known procs top.proc top.edge top.base cells proc number stmt
    → executed procs top below cells number stmt ≢ Stuck → first_applicable known file.rules rulings top.proc proc number ≡ first
    → executed procs top below cells number (by_first first stmt) ≡ executed procs top below cells number stmt
by_steps file rulings procs known top below cells proc number stmt None set at moves is = refl
by_steps file rulings procs known top below cells proc number stmt (Some candidate) set at moves is =
    let first = first_is proc file.rules rulings known top.proc number candidate is in
    kept_by_form file.schemas candidate.rule candidate.template candidate.binding (length proc.vars) procs top below cells number stmt
    (applies file rulings procs known set top.proc top.edge top.base cells proc number stmt at candidate first) first.from.transforms at.safe moves
    candidate.rule.pattern refl candidate.template refl
    (fit_of file set.rules rulings known proc top.proc number candidate first)
    (pattern_is file set.rules rulings known proc top.proc number stmt candidate at.stmt_at first)

pub rewriting_steps : RewritingSteps
rewriting_steps file rulings procs known top below cells proc number stmt set at moves =
    by_steps file rulings procs known top below cells proc number stmt (first_applicable known file.rules rulings top.proc proc number) set at moves refl

by_calls : (file : Rules) (rulings : List Ruling) (procs : List Proc) (known : Known) (place : ℕ) (edge : Edge) (base : ℕ) (cells : List Value) (proc : Proc) (number to callee : ℕ) (arg : Base)
    (first : Option Candidate) → IsProvedSet file rulings procs known → Stands file.schemas known procs place edge base cells proc number (Call to callee arg)
    → first_applicable known file.rules rulings place proc number ≡ first
    → (new : Base) × (by_first first (Call to callee arg) ≡ Call to callee new)
by_calls file rulings procs known place edge base cells proc number to callee arg None set at is = (arg, refl)
by_calls file rulings procs known place edge base cells proc number to callee arg (Some candidate) set at is =
    let first = first_is proc file.rules rulings known place number candidate is in
    call_becomes file.schemas candidate.rule candidate.template candidate.binding (length proc.vars) base cells
    (applies file rulings procs known set place edge base cells proc number (Call to callee arg) at candidate first) first.from.transforms
    candidate.rule.pattern candidate.template to callee arg refl refl
    (fit_of file set.rules rulings known proc place number candidate first)
    (pattern_is file set.rules rulings known proc place number (Call to callee arg) candidate at.stmt_at first)

pub rewriting_keeps_calls : RewritingKeepsCalls
rewriting_keeps_calls file rulings procs known place edge base cells proc number to callee arg set at =
    by_calls file rulings procs known place edge base cells proc number to callee arg (first_applicable known file.rules rulings place proc number) set at refl
