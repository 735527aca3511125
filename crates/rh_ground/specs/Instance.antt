-- Instances of rules.
use Rattle.std.specs.Prelude.{Bool, true, false, not, ◌&&◌, IsTrue, map, Contains, slice_get}
use Rattle.std.specs.List.{list_all}
use Rattle.std.specs.Option.{option_map_or}
use Rattle.rh_il.specs.declared.program.Node.{Node}
use Rattle.rh_il.specs.declared.program.Node.TheVariants.{Entry as AtEntry, At}
use Rattle.rh_il.specs.declared.program.Proc.{Proc}
use Rattle.rh_il.specs.Op.{number_of}
use Rattle.rh_rule.specs.declared.rule.Arg.{Arg}
use Rattle.rh_rule.specs.declared.rule.Arg.TheVariants.{Const}
use Rattle.rh_rule.specs.declared.rule.Conclusion.{Conclusion}
use Rattle.rh_rule.specs.declared.rule.Conclusion.TheVariants.{Fact, Transform}
use Rattle.rh_rule.specs.declared.rule.FactUse.{FactUse}
use Rattle.rh_rule.specs.declared.rule.Form.{Form}
use Rattle.rh_rule.specs.declared.rule.Form.TheVariants.{Entry}
use Rattle.rh_rule.specs.declared.rule.Rule.{Rule}
use Rattle.rh_rule.specs.declared.rule.RuleBase.{RuleBase}
use Rattle.rh_rule.specs.declared.rule.RuleBase.TheVariants.{Meta, Num, Wild}
use Rattle.rh_rule.specs.declared.rule.Side.{Side}
use Rattle.rh_rule.specs.declared.rule.Side.TheVariants.{Same, Differ}
use Rattle.rh_rule.specs.declared.rule.SideTerm.{SideTerm}
use Rattle.rh_rule.specs.declared.rule.SideTerm.TheVariants.{Plain, Compute}
use Rattle.rh_domain.specs.Binding.{Binding, arg_eq, arg_under, as_number, bindings}
use Rattle.rh_domain.specs.Constants.{is_constant}
use Rattle.rh_domain.specs.declared.fact.GroundFact.{GroundFact}
use Rattle.rh_ground.specs.Match.{matches, is_variable}

-- what a side term stands for; an operator stands between numbers
abbrev pub side_arg : Binding → SideTerm → Arg
side_arg binding (Plain base) = arg_under binding base
side_arg binding (Compute op left right) = Const (number_of op (as_number (arg_under binding left)) (as_number (arg_under binding right)))

abbrev pub side_holds : Binding → Side → Bool
side_holds binding (Same left right) = arg_eq (side_arg binding left) (side_arg binding right)
side_holds binding (Differ left right) = not (arg_eq (side_arg binding left) (side_arg binding right))

-- the fact that a use of a schema is
abbrev pub fact_under : Binding → FactUse → GroundFact
fact_under binding fact = record { schema = fact.schema; args = map (arg_under binding) fact.args }

-- each number that stands as an argument of the fact is a constant of the procedure
abbrev pub is_base_in_domain : Proc → RuleBase → Bool
is_base_in_domain proc (Num number) = is_constant proc number
is_base_in_domain proc (Meta meta) = true
is_base_in_domain proc Wild = true

abbrev pub is_fact_in_domain : Proc → FactUse → Bool
is_fact_in_domain proc fact = list_all (is_base_in_domain proc) fact.args

abbrev pub is_conclusion_in_domain : Proc → Conclusion → Bool
is_conclusion_in_domain proc (Fact fact slot) = is_fact_in_domain proc fact
is_conclusion_in_domain proc (Transform template) = true

-- the pattern `entry(A)` is the entry where A is the parameter
abbrev pub matches_entry : Binding → Form → Bool
matches_entry binding (Entry param) = is_variable binding param 0
matches_entry binding _ = false

-- the pattern is what stands at the node
abbrev pub matches_at : Proc → Binding → Form → Node → Bool
matches_at proc binding pattern AtEntry = matches_entry binding pattern
matches_at proc binding pattern (At number) = option_map_or (matches binding pattern) (slice_get proc.body number) false

-- the numbers in the rule's facts are constants of the procedure
abbrev pub is_rule_in : Proc → Rule → Bool
is_rule_in proc rule = list_all (is_fact_in_domain proc) rule.premises && is_conclusion_in_domain proc rule.conclusion

-- the rule's pattern is what stands at the node, and its side conditions hold
abbrev pub rule_matches : Proc → Rule → Binding → Node → Bool
rule_matches proc rule binding node = matches_at proc binding rule.pattern node && list_all (side_holds binding) rule.sides

-- under the binding the rule is about the node
abbrev pub is_instance : Proc → Rule → Binding → Node → Bool
is_instance proc rule binding node =
    matches_at proc binding rule.pattern node
    && (list_all (side_holds binding) rule.sides
    && (list_all (is_fact_in_domain proc) rule.premises && is_conclusion_in_domain proc rule.conclusion))

-- an instance of a rule at a node of a procedure
pub record IsInstance (proc : Proc) (rule : Rule) (binding : Binding) (node : Node) : Type 0 where
  pub in_domain : Contains (bindings proc rule.params) binding
  pub about : IsTrue (is_instance proc rule binding node)
