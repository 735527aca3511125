-- What has to be shown of a rule: one goal for each of its obligations.
use Rattle.std.specs.Prelude.{List, [], ◌∷◌, ◌++◌}
use Rattle.rh_rule.specs.declared.rule.Conclusion.{Conclusion}
use Rattle.rh_rule.specs.declared.rule.Conclusion.TheVariants.{Fact, Transform}
use Rattle.rh_rule.specs.declared.rule.Form.{Form}
use Rattle.rh_rule.specs.declared.rule.Form.TheVariants.{Call, If, Return}
use Rattle.rh_rule.specs.declared.rule.Rule.{Rule}
use Rattle.rh_rule.specs.declared.schema.Param.{Param}
use Rattle.rh_rule.specs.declared.schema.Schema.{Schema}
use Rattle.rh_meaning.specs.Literal.{TreeLit, equals}
use Rattle.rh_meaning.specs.Meaning.{fact_literals}
use Rattle.rh_goals.specs.Statement.{address, value, step_literals, store_after}

-- that the template does what the statement does. It calls with the same destination and argument, or
-- branches on the same condition, or returns the same value; else it steps, and to the same store
abbrev pub template_goals : List Param → Form → Form → List TreeLit
template_goals params (Call to arg) (Call to' arg') = equals (address to) (address to') ∷ equals (value params arg) (value params arg') ∷ []
template_goals params (If cond) (If cond') = step_literals params (If cond') ++ equals (value params cond) (value params cond') ∷ []
template_goals params (Return result) (Return result') = equals (value params result) (value params result') ∷ []
template_goals params pattern template =
    step_literals params template ++ equals (store_after params pattern) (store_after params template) ∷ []

-- the atoms of the concluded fact after the step, or that the template does what the statement does
abbrev pub conclusion_goals : List Schema → List Param → Form → Conclusion → List TreeLit
conclusion_goals schemas params pattern (Fact fact slot) = fact_literals schemas params (store_after params pattern) fact
conclusion_goals schemas params pattern (Transform template) = template_goals params pattern template

abbrev pub goals : List Schema → Rule → List TreeLit
goals schemas rule = conclusion_goals schemas rule.params rule.pattern rule.conclusion
