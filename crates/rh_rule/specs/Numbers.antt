-- The numbers of parameters, metavariables and schemas are in range, and facts have as many arguments as their schemas have parameters.
use Rattle.std.specs.Prelude.{ℕ, Bool, true, false, ◌&&◌, ◌==◌, nat_lt, List, length, slice_get}
use Rattle.std.specs.List.{list_all}
use Rattle.std.specs.Option.{option_map_or}
use Rattle.rh_rule.specs.declared.schema.MeaningBase.{MeaningBase}
use Rattle.rh_rule.specs.declared.schema.MeaningBase.TheVariants.{Param as AParam, Num as ANumber}
use Rattle.rh_rule.specs.declared.schema.MeaningTerm.{MeaningTerm}
use Rattle.rh_rule.specs.declared.schema.MeaningTerm.TheVariants.{Plain, Address, Deref, Compute}
use Rattle.rh_rule.specs.declared.schema.MeaningAtom.{MeaningAtom}
use Rattle.rh_rule.specs.declared.schema.MeaningAtom.TheVariants.{Same, Differ, IsNumber, IsPointer, Unaliased}
use Rattle.rh_rule.specs.declared.schema.Schema.{Schema}
use Rattle.rh_rule.specs.declared.rule.RuleBase.{RuleBase}
use Rattle.rh_rule.specs.declared.rule.RuleBase.TheVariants.{Meta, Num, Wild}
use Rattle.rh_rule.specs.declared.rule.FactUse.{FactUse}
use Rattle.rh_rule.specs.declared.rule.Side.{Side}
use Rattle.rh_rule.specs.declared.rule.Conclusion.{Conclusion}
use Rattle.rh_rule.specs.declared.rule.Conclusion.TheVariants.{Fact, Transform}
use Rattle.rh_rule.specs.declared.rule.Rule.{Rule}
use Rattle.rh_rule.specs.Operands.{operands, term_operands, side_terms}

-- the parameters of an atom are among so many
abbrev pub base_is_below : ℕ → MeaningBase → Bool
base_is_below params (AParam param) = nat_lt param params
base_is_below params (ANumber number) = true

abbrev pub term_is_below : ℕ → MeaningTerm → Bool
term_is_below params (Plain base) = base_is_below params base
term_is_below params (Address param) = nat_lt param params
term_is_below params (Deref param) = nat_lt param params
term_is_below params (Compute op left right) = base_is_below params left && base_is_below params right

abbrev pub atom_is_below : ℕ → MeaningAtom → Bool
atom_is_below params (Same s t) = term_is_below params s && term_is_below params t
atom_is_below params (Differ s t) = term_is_below params s && term_is_below params t
atom_is_below params (IsNumber t) = term_is_below params t
atom_is_below params (IsPointer t) = term_is_below params t
atom_is_below params (Unaliased param) = nat_lt param params

-- an operand of a rule with so many metavariables
abbrev pub is_below : ℕ → RuleBase → Bool
is_below metas (Meta meta) = nat_lt meta metas
is_below metas (Num number) = true
is_below metas Wild = true

abbrev pub are_below : ℕ → List RuleBase → Bool
are_below metas bases = list_all (is_below metas) bases

-- a fact, where there are so many schemas
abbrev pub fact_is_below : ℕ → ℕ → FactUse → Bool
fact_is_below schemas metas fact = nat_lt fact.schema schemas && are_below metas fact.args

abbrev pub side_is_below : ℕ → Side → Bool
side_is_below metas side = are_below metas (term_operands (side_terms side).0) && are_below metas (term_operands (side_terms side).1)

abbrev pub conclusion_is_below : ℕ → ℕ → Conclusion → Bool
conclusion_is_below schemas metas (Fact fact slot) = fact_is_below schemas metas fact
conclusion_is_below schemas metas (Transform form) = are_below metas (operands form)

-- all numbers of a rule are in range
abbrev pub has_numbers : ℕ → Rule → Bool
has_numbers schemas rule =
    are_below (length rule.params) (operands rule.pattern)
    && (list_all (fact_is_below schemas (length rule.params)) rule.premises
    && (list_all (side_is_below (length rule.params)) rule.sides
    && conclusion_is_below schemas (length rule.params) rule.conclusion))

-- a fact has one argument for each parameter of its schema
abbrev pub fact_has_arity : List Schema → FactUse → Bool
fact_has_arity schemas fact = option_map_or (λ schema. length fact.args == length schema.params) (slice_get schemas fact.schema) false

abbrev pub conclusion_has_arity : List Schema → Conclusion → Bool
conclusion_has_arity schemas (Fact fact slot) = fact_has_arity schemas fact
conclusion_has_arity schemas (Transform form) = true

-- the premises of a rule and what it concludes do
abbrev pub has_arity : List Schema → Rule → Bool
has_arity schemas rule = list_all (fact_has_arity schemas) rule.premises && conclusion_has_arity schemas rule.conclusion
