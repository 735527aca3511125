-- What `opt` writes: a line for each rule, a line for each known fact, and the rewritten program.
use Rattle.std.specs.Prelude.{ℕ, ◌≡◌, List, [], ◌∷◌, ◌++◌, codes, filter, slice_get}
use Rattle.std.specs.List.{AllZip, flat_map}
use Rattle.std.specs.Fmt.{decimal, signed_decimal}
use Rattle.std.specs.Option.{option_map_or}
use Rattle.rh_il.specs.declared.program.Node.{Node}
use Rattle.rh_il.specs.declared.program.Node.TheVariants.{Entry, At}
use Rattle.rh_il.specs.declared.program.Proc.{Proc}
use Rattle.rh_il_print.specs.Text.{name_at, proc_name, program_text}
use Rattle.rh_rule.specs.declared.rule.Arg.{Arg}
use Rattle.rh_rule.specs.declared.rule.Arg.TheVariants.{Var, Const}
use Rattle.rh_rule.specs.declared.rule.Rule.{Rule}
use Rattle.rh_rule.specs.declared.rule.Ruling.{Ruling}
use Rattle.rh_rule.specs.declared.rule.Ruling.TheVariants.{Admitted, Refused}
use Rattle.rh_rule.specs.declared.schema.Schema.{Schema}
use Rattle.rh_rule.specs.RuleFiles.{Rules}
use Rattle.rh_rule_print.specs.Text.{joined, schema_name, slot_text}
use Rattle.rh_domain.specs.Facts.{Known, all_facts}
use Rattle.rh_domain.specs.declared.fact.FactAt.{FactAt}
use Rattle.rh_domain.specs.declared.fact.GroundFact.{GroundFact}
use Rattle.rh_ground.specs.Rows.{IsGreatest}
use Rattle.rh_oblig.specs.Ruling.{IsRuling}
use Rattle.rh_transform.specs.Rewritten.{rewritten}

-- the ruling on a rule, after its name
abbrev pub ruling_text : Ruling → List ℕ
ruling_text Admitted = codes " admitted\n"
ruling_text (Refused obligation) = codes " refused at " ++ decimal obligation ++ codes "\n"

abbrev pub rule_line : Rule → Ruling → List ℕ
rule_line rule ruling = codes "# rule " ++ rule.name ++ ruling_text ruling

-- a line for each rule, in the order of the rules
abbrev pub rule_lines : List Rule → List Ruling → List ℕ
rule_lines [] rulings = []
rule_lines (rule ∷ rules) [] = []
rule_lines (rule ∷ rules) (ruling ∷ rulings) = rule_line rule ruling ++ rule_lines rules rulings

abbrev pub node_text : Node → List ℕ
node_text Entry = codes "entry"
node_text (At number) = decimal number

abbrev pub arg_text : List (List ℕ) → Arg → List ℕ
arg_text vars (Var number) = name_at vars number
arg_text vars (Const number) = signed_decimal number

-- a fact over the variables of a procedure
abbrev pub ground_fact_text : List Schema → List (List ℕ) → GroundFact → List ℕ
ground_fact_text schemas vars fact = schema_name schemas fact.schema ++ codes "(" ++ joined (codes ", ") (arg_text vars) fact.args ++ codes ")"

-- the variables of the procedure of a number
abbrev pub vars_at : List Proc → ℕ → List (List ℕ)
vars_at procs number = option_map_or (λ proc. proc.vars) (slice_get procs number) []

abbrev pub fact_line : List Schema → List Proc → FactAt → List ℕ
fact_line schemas procs fact =
    codes "# fact " ++ proc_name procs fact.proc ++ codes " " ++ node_text fact.edge.node ++ codes "." ++ slot_text fact.edge.slot
    ++ codes " " ++ ground_fact_text schemas (vars_at procs fact.proc) fact.fact ++ codes "\n"

-- a line for each known fact, in the order of the facts
abbrev pub fact_lines : List Schema → List Proc → Known → List ℕ
fact_lines schemas procs known = flat_map (fact_line schemas procs) (filter known (all_facts schemas procs))

-- what is written where these are the rulings and the known facts
abbrev pub opt_text : Rules → List Ruling → Known → List Proc → List ℕ
opt_text file rulings known procs =
    rule_lines file.rules rulings ++ fact_lines file.schemas procs known ++ program_text (rewritten known file.rules rulings procs)

-- the output of `opt` for a rule file and a program
pub record IsOutput (file : Rules) (procs : List Proc) (text : List ℕ) : Type 0 where
  pub rulings : List Ruling
  pub ruled : AllZip (IsRuling file.schemas) file.rules rulings
  pub known : Known
  pub greatest : IsGreatest file.rules rulings procs known
  pub text_is : text ≡ opt_text file rulings known procs
