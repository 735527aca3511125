-- What `opt` prints is its result.
use Rattle.std.proofs.Common.{ℕ, zero, suc, ◌≡◌, List, [], ◌∷◌, ◌++◌, map, length, Option, None, Result, Ok, Err, Vec, Global, refl, ap, sym, subst, ◌∙◌}
use Rattle.std.specs.List.{AllZip}
use Rattle.std.specs.Prelude.{IfOk}
use Rattle.rh_list.specs.Each.{Each}
use Rattle.rh_admit.specs.Rules.{IsTold}
use Rattle.rh_args.specs.declared.command.Command.{Command}
use Rattle.rh_il.specs.declared.program.Proc.{Proc}
use Rattle.rh_il.specs.Checks.{IsProgram}
use Rattle.rh_il.specs.Numbers.{HasNumbers}
use Rattle.rh_il_text.specs.Program.{IsText}
use Rattle.rh_il_print.specs.Text.{program_text}
use Rattle.rh_log.specs.declared.log.Admission.{Admission}
use Rattle.rh_log.specs.Admission.{ruling_of}
use Rattle.rh_oblig.specs.Obligation.{excess}
use Rattle.rh_oblig.specs.Ruling.{IsRuling}
use Rattle.rh_goals.specs.Valid.{IsSound}
use Rattle.rh_oblig.proofs.Sound.{admitted_are_sound}
use Rattle.rh_rule.specs.declared.rule.Rule.{Rule}
use Rattle.rh_rule.specs.declared.rule.Ruling.{Ruling}
use Rattle.rh_rule.specs.declared.rule.Ruling.TheVariants.{Admitted}
use Rattle.rh_rule.specs.declared.schema.Schema.{Schema}
use Rattle.rh_rule.specs.RuleFiles.{IsRuleFile, IsRuleOf, Rules}
use Rattle.rh_rule.proofs.Passed.{rule_of}
use Rattle.rh_domain.specs.Facts.{Known}
use Rattle.rh_ground.specs.Rows.{IsGreatest}
use Rattle.rh_ground.proofs.Greatest.{greatest_is_supported}
use Rattle.rh_lift.specs.Standing.{AreSound, IsProvedSet}
use Rattle.rh_lift.proofs.WholeRuns.{facts_hold_in_runs, returns_kept}
use Rattle.rh_report.specs.Output.{fact_lines, rule_lines}
use Rattle.rh_report.specs.declared.status.Status.{Status}
use Rattle.rh_transform.specs.Rewritten.{rewritten}
use Rattle.rh_top.specs.Outputs.{IsMade}
use Rattle.rh_top.specs.Requests.{request_of}
use Rattle.rh_top.specs.Result.{IsResult}
use Rattle.rh_audit.specs.Audit.{HaveFewTerms}

-- ---- rulings

ruled_by : (schemas : List Schema) (rules : List Rule) (admissions : List Admission) → AllZip (IsTold schemas) rules admissions → AllZip (IsRuling schemas) rules (map ruling_of admissions)
ruled_by schemas [] [] told = tt
ruled_by schemas [] (a ∷ admissions) told = absurd told
ruled_by schemas (rule ∷ rules) [] told = absurd told
ruled_by schemas (rule ∷ rules) (a ∷ admissions) told = (told.0.ruled, ruled_by schemas rules admissions told.1)

-- the rulings that admissions tell
pub ruled_as : (schemas : List Schema) (rules : List Rule) (admissions : List Admission) (rulings : List Ruling) → AllZip (IsTold schemas) rules admissions → rulings ≡ map ruling_of admissions
    → AllZip (IsRuling schemas) rules rulings
ruled_as schemas rules admissions rulings told is = subst (AllZip (IsRuling schemas) rules) (sym is) (ruled_by schemas rules admissions told)

pub as_many : (schemas : List Schema) (rules : List Rule) (rulings : List Ruling) → AllZip (IsRuling schemas) rules rulings → length rules ≡ length rulings
as_many schemas [] [] ruled = refl
as_many schemas [] (a ∷ rulings) ruled = absurd ruled
as_many schemas (rule ∷ rules) [] ruled = absurd ruled
as_many schemas (rule ∷ rules) (a ∷ rulings) ruled = ap suc (as_many schemas rules rulings ruled.1)

sound_one : (schemas : List Schema) (rule : Rule) (ruling : Ruling) → IsRuleOf schemas rule → IsRuling schemas rule ruling → ruling ≡ Admitted → IsSound schemas rule
sound_one schemas rule ruling of ruled is = admitted_are_sound schemas rule of (subst (IsRuling schemas rule) is ruled)

sound_by : (schemas : List Schema) (rules : List Rule) (rulings : List Ruling) → Each (IsRuleOf schemas) rules → AllZip (IsRuling schemas) rules rulings → AreSound schemas rules rulings
sound_by schemas [] [] each ruled number rule read admitted = cc
sound_by schemas [] (a ∷ rulings) each ruled number rule read admitted = absurd ruled
sound_by schemas (r ∷ rules) [] each ruled number rule read admitted = absurd ruled
sound_by schemas (r ∷ rules) (a ∷ rulings) each ruled zero rule read admitted =
    let same : r ≡ rule = cc in
    let is : a ≡ Admitted = cc in
    subst (IsSound schemas) same (sound_one schemas r a (each 0 r refl) ruled.0 is)
sound_by schemas (r ∷ rules) (a ∷ rulings) each ruled (suc number) rule read admitted =
    sound_by schemas rules rulings (λ place other stands. each (suc place) other stands) ruled.1 number rule read admitted

few_by : (schemas : List Schema) (rules : List Rule) (admissions : List Admission) → AllZip (IsTold schemas) rules admissions → Each (λ rule. excess schemas rule ≡ None) rules
few_by schemas [] [] told number rule read = cc
few_by schemas [] (a ∷ admissions) told number rule read = absurd told
few_by schemas (r ∷ rules) [] told number rule read = absurd told
few_by schemas (r ∷ rules) (a ∷ admissions) told zero rule read = let same : r ≡ rule = cc in subst (λ x. excess schemas x ≡ None) same told.0.small
few_by schemas (r ∷ rules) (a ∷ admissions) told (suc number) rule read = few_by schemas rules admissions told.1 number rule read

-- rules that are ruled on have few terms
pub few_terms : (file : Rules) (admissions : List Admission) → AllZip (IsTold file.schemas) file.rules admissions → HaveFewTerms file
few_terms file admissions told = few_by file.schemas file.rules admissions told

-- ---- the result

module _ (file : Rules) (procs : List Proc) (is_file : IsRuleFile file) (program : IsProgram procs) (numbers : Each HasNumbers procs) where
  -- the text that is made of the rulings, the greatest set of facts and the rewritten program
  pub solved_result : (rulings : List Ruling) (known : Known) (after : List Proc) (text : List ℕ) → AllZip (IsRuling file.schemas) file.rules rulings → IsGreatest file.rules rulings procs known
      → after ≡ rewritten known file.rules rulings procs → text ≡ rule_lines file.rules rulings ++ fact_lines file.schemas procs known ++ program_text after → IsText text after
      → IsResult file procs text
  solved_result rulings known after text ruled greatest after_is text_is is_text =
      let proved : IsProvedSet file rulings procs known = record {
        rules = is_file;
        sound = sound_by file.schemas file.rules rulings (λ number rule read. rule_of file number file.schemas rule is_file refl read) ruled;
        program = program;
        numbers = numbers;
        supported = greatest_is_supported file.rules rulings procs known greatest;
      } in
      record {
        output = record {
          rulings = rulings;
          ruled = ruled;
          known = known;
          greatest = greatest;
          text_is = text_is ∙ ap (λ q. rule_lines file.rules rulings ++ fact_lines file.schemas procs known ++ program_text q) after_is;
        };
        printed = subst (IsText text) after_is is_text;
        facts = λ state fact. facts_hold_in_runs file rulings procs known state fact proved;
        returns = λ arg value bound. returns_kept file rulings procs known arg value bound proved;
      }

-- what is known of an answer, twice
pub of_ok : {T E : Type 0} (P Q R : T → Type 0) (result : Result T E) → ((x : T) → P x → Q x → R x) → IfOk result P → IfOk result Q → IfOk result R
of_ok P Q R (Ok x) leads first second = leads x first second
of_ok P Q R (Err e) leads first second = first

-- what is known of an answer
pub of_one : {T E : Type 0} (P Q : T → Type 0) (result : Result T E) → ((x : T) → P x → Q x) → IfOk result P → IfOk result Q
of_one P Q (Ok x) leads known = leads x known
of_one P Q (Err e) leads known = known

-- the output of a command that is known
pub made_by : (holds : List ℕ → Option (List ℕ)) (before after : List ℕ → ℕ) (command known : Command) (result : Result (Vec ℕ Global) Status) → command ≡ known
    → IfOk result (λ text. IsMade (record { holds = holds; faults_before = before; faults_after = after }) (request_of known) text.items)
    → IfOk result (λ text. IsMade (record { holds = holds; faults_before = before; faults_after = after }) (request_of command) text.items)
made_by holds before after command known result is made =
    subst (λ c. IfOk result (λ text. IsMade (record { holds = holds; faults_before = before; faults_after = after }) (request_of c) text.items)) (sym is) made
