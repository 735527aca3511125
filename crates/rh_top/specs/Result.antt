-- What the commands print of a rule file and a program.
use Rattle.std.specs.Prelude.{ℕ, ℤ, ◌≡◌, IsTrue, List, ◌++◌, map}
use Rattle.std.specs.List.{AllZip}
use Rattle.rh_admit.specs.Rules.{IsTold}
use Rattle.rh_audit.specs.Proofs.{proofs_text}
use Rattle.rh_il.specs.declared.program.Proc.{Proc}
use Rattle.rh_il.specs.declared.value.Value.{Value}
use Rattle.rh_il.specs.Value.{IsNumber}
use Rattle.rh_il_step.specs.declared.runs.RunEnd.{RunEnd}
use Rattle.rh_il_step.specs.Run.{IsReached, Reaches, Returns}
use Rattle.rh_il_step.specs.RunEnd.{IsRunEnd}
use Rattle.rh_il_step.specs.State.{State}
use Rattle.rh_il_text.specs.Program.{IsText}
use Rattle.rh_domain.specs.Facts.{Known}
use Rattle.rh_domain.specs.declared.fact.FactAt.{FactAt}
use Rattle.rh_ground.specs.Rows.{IsGreatest}
use Rattle.rh_lift.specs.Runs.{fact_holds_in}
use Rattle.rh_log.specs.declared.log.Admission.{Admission}
use Rattle.rh_log.specs.Admission.{ruling_of}
use Rattle.rh_oblig.specs.Ruling.{IsRuling}
use Rattle.rh_report.specs.Counts.{counts_text}
use Rattle.rh_report.specs.Output.{IsOutput, rule_lines}
use Rattle.rh_report.specs.RunLine.{run_line}
use Rattle.rh_rule.specs.declared.rule.Ruling.{Ruling}
use Rattle.rh_rule.specs.declared.schema.Schema.{Schema}
use Rattle.rh_rule.specs.RuleFiles.{Rules}
use Rattle.rh_transform.specs.Rewritten.{rewritten}

-- each known fact holds in every state of the program's runs that reaches its edge
abbrev pub HoldInRuns : List Schema → List Proc → Known → Type 0
HoldInRuns schemas procs known =
    (state : State) (fact : FactAt) → IsReached procs state → Reaches state fact.proc fact.edge → IsTrue (known fact)
    → IsTrue (fact_holds_in schemas state fact.fact)

-- where the one program returns a value within n steps, so does the other
abbrev pub KeepsReturns : List Proc → List Proc → Type 0
KeepsReturns procs after = (arg : ℤ) (value : Value) (bound : ℕ) → IsNumber arg → Returns procs arg value bound → Returns after arg value bound

-- The output of `opt` on a rule file and a program: the rulings, the facts, and the rewritten program. It is a
-- text of that program, which keeps what the program returns, and the facts hold.
pub record IsResult (file : Rules) (procs : List Proc) (text : List ℕ) : Type 0 where
  pub output : IsOutput file procs text
  pub printed : IsText text (rewritten output.known file.rules output.rulings procs)
  pub facts : HoldInRuns file.schemas procs output.known
  pub returns : KeepsReturns procs (rewritten output.known file.rules output.rulings procs)

-- The output of `gen` on them: how many procedures there are, rules that are proved and refused, facts in the
-- greatest set that the proved rules support, and statements that they rewrite.
pub record IsCounted (file : Rules) (procs : List Proc) (text : List ℕ) : Type 0 where
  pub rulings : List Ruling
  pub ruled : AllZip (IsRuling file.schemas) file.rules rulings
  pub known : Known
  pub greatest : IsGreatest file.rules rulings procs known
  pub text_is : text ≡ counts_text file rulings known procs

-- the output of `check` on a rule file: the rulings
pub record IsChecked (file : Rules) (text : List ℕ) : Type 0 where
  pub rulings : List Ruling
  pub ruled : AllZip (IsRuling file.schemas) file.rules rulings
  pub text_is : text ≡ rule_lines file.rules rulings

-- the output of `prove` on it: the rulings, and the logs of the proved rules
pub record IsProved (file : Rules) (text : List ℕ) : Type 0 where
  pub admissions : List Admission
  pub told : AllZip (IsTold file.schemas) file.rules admissions
  pub text_is : text ≡ rule_lines file.rules (map ruling_of admissions) ++ proofs_text file.rules admissions

-- the output of `run` on a program: how its run of so many steps at most ends
pub record IsRun (procs : List Proc) (arg : ℤ) (most : ℕ) (text : List ℕ) : Type 0 where
  pub end : RunEnd
  pub is_end : IsRunEnd procs arg most end
  pub text_is : text ≡ run_line procs most end
