-- The program that rules rewrite.
use Rattle.std.specs.Prelude.{ℕ, Bool, ◌&&◌, List, [], ◌∷◌, ◌++◌, Option, map, slice_get}
use Rattle.std.specs.List.{list_all, find, enumerate_from}
use Rattle.std.specs.Option.{option_and_then, option_map, option_map_or}
use Rattle.rh_il.specs.declared.program.Node.TheVariants.{At}
use Rattle.rh_il.specs.declared.program.Proc.{Proc}
use Rattle.rh_il.specs.declared.program.Stmt.{Stmt}
use Rattle.rh_rule.specs.declared.rule.Conclusion.{Conclusion}
use Rattle.rh_rule.specs.declared.rule.Conclusion.TheVariants.{Fact, Transform}
use Rattle.rh_rule.specs.declared.rule.Form.{Form}
use Rattle.rh_rule.specs.declared.rule.Rule.{Rule}
use Rattle.rh_rule.specs.declared.rule.Ruling.{Ruling}
use Rattle.rh_rule.specs.declared.rule.Ruling.TheVariants.{Admitted, Refused}
use Rattle.rh_domain.specs.Binding.{Binding, bindings}
use Rattle.rh_domain.specs.Facts.{Known}
use Rattle.rh_ground.specs.Instance.{is_instance}
use Rattle.rh_ground.specs.Rows.{premises_at}
use Rattle.rh_ground.specs.Match.{template_under}

-- a rule under a binding
pub record Candidate : Type 0 where
  pub rule : Rule
  pub template : Form
  pub binding : Binding

-- the candidates of one rule: its bindings in their order, where it is a proved transformation rule
abbrev pub candidates_of : Proc → Rule → Ruling → Conclusion → List Candidate
candidates_of proc rule Admitted (Transform template) = map (λ binding. record { rule = rule; template = template; binding = binding }) (bindings proc rule.params)
candidates_of proc rule Admitted (Fact fact slot) = []
candidates_of proc rule (Refused obligation) conclusion = []

-- the candidates of all rules, in the order of the rules
abbrev pub candidates : Proc → List Rule → List Ruling → List Candidate
candidates proc [] rulings = []
candidates proc (rule ∷ rules) [] = []
candidates proc (rule ∷ rules) (ruling ∷ rulings) = candidates_of proc rule ruling rule.conclusion ++ candidates proc rules rulings

-- the candidate is an instance at the statement, and its premises are known on each edge that enters it
abbrev pub is_applicable : Known → ℕ → Proc → ℕ → Candidate → Bool
is_applicable known place proc number candidate =
    is_instance proc candidate.rule candidate.binding (At number)
    && list_all known (premises_at place proc candidate.rule candidate.binding (At number))

-- what one rule makes of a statement: the template of its first applicable candidate
abbrev pub template_of : Known → ℕ → Proc → ℕ → Stmt → Rule → Ruling → Option Stmt
template_of known place proc number stmt rule ruling =
    option_map (λ candidate. template_under candidate.binding candidate.template stmt) (find (is_applicable known place proc number) (candidates_of proc rule ruling rule.conclusion))

-- what the rule with a number makes of it
abbrev pub template_by : Known → List Rule → List Ruling → ℕ → Proc → ℕ → Stmt → ℕ → Option Stmt
template_by known rules rulings place proc number stmt at =
    option_and_then (λ rule. option_and_then (template_of known place proc number stmt rule) (slice_get rulings at)) (slice_get rules at)

-- the first applicable candidate
abbrev pub first_applicable : Known → List Rule → List Ruling → ℕ → Proc → ℕ → Option Candidate
first_applicable known rules rulings place proc number = find (is_applicable known place proc number) (candidates proc rules rulings)

-- the statement that takes the place of another: the template of the first applicable candidate
abbrev pub rewritten_statement : Known → List Rule → List Ruling → ℕ → Proc → ℕ → Stmt → Stmt
rewritten_statement known rules rulings place proc number stmt =
    option_map_or (λ candidate. template_under candidate.binding candidate.template stmt) (first_applicable known rules rulings place proc number) stmt

abbrev pub rewritten_body : Known → List Rule → List Ruling → ℕ → Proc → List Stmt
rewritten_body known rules rulings place proc =
    map (λ at. rewritten_statement known rules rulings place proc at.0 at.1) (enumerate_from 0 proc.body)

-- the procedure with each of its statements rewritten
abbrev pub rewritten_proc : Known → List Rule → List Ruling → ℕ → Proc → Proc
rewritten_proc known rules rulings place proc = record proc { body = rewritten_body known rules rulings place proc }

-- the program with each of its procedures rewritten
abbrev pub rewritten : Known → List Rule → List Ruling → List Proc → List Proc
rewritten known rules rulings procs = map (λ at. rewritten_proc known rules rulings at.0 at.1) (enumerate_from 0 procs)
