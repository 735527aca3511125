-- The canonical text of a rule file.
use Rattle.std.specs.Prelude.{ℕ, List, [], ◌∷◌, ◌++◌, codes, slice_get}
use Rattle.std.specs.List.{flat_map}
use Rattle.std.specs.Option.{option_map_or}
use Rattle.std.specs.Fmt.{signed_decimal}
use Rattle.rh_il.specs.declared.value.Op.{Op}
use Rattle.rh_il.specs.declared.program.Slot.{Slot}
use Rattle.rh_il.specs.declared.program.Slot.TheVariants.{Out, Then, Else}
use Rattle.rh_print.specs.Operators.{op_text}
use Rattle.rh_rule.specs.declared.schema.Kind.{Kind}
use Rattle.rh_rule.specs.declared.schema.Kind.TheVariants.{Var, Const}
use Rattle.rh_rule.specs.declared.schema.Param.{Param}
use Rattle.rh_rule.specs.declared.schema.MeaningBase.{MeaningBase}
use Rattle.rh_rule.specs.declared.schema.MeaningBase.TheVariants.{Param as AParam, Num as ANumber}
use Rattle.rh_rule.specs.declared.schema.MeaningTerm.{MeaningTerm}
use Rattle.rh_rule.specs.declared.schema.MeaningTerm.TheVariants.{Plain as APlain, Address as AnAddress, Deref, Compute as AComputation}
use Rattle.rh_rule.specs.declared.schema.MeaningAtom.{MeaningAtom}
use Rattle.rh_rule.specs.declared.schema.MeaningAtom.TheVariants.{Same as AreSame, Differ as DoDiffer, IsNumber, IsPointer, Unaliased}
use Rattle.rh_rule.specs.declared.schema.Schema.{Schema}
use Rattle.rh_rule.specs.declared.rule.RuleBase.{RuleBase}
use Rattle.rh_rule.specs.declared.rule.RuleBase.TheVariants.{Meta, Num, Wild}
use Rattle.rh_rule.specs.declared.rule.Form.{Form}
use Rattle.rh_rule.specs.declared.rule.Form.TheVariants.{Entry, Goto, Skip, AnyAssign, Assign, Address, Load, Compute, Write, New, Call, If, Return}
use Rattle.rh_rule.specs.declared.rule.FactUse.{FactUse}
use Rattle.rh_rule.specs.declared.rule.SideTerm.{SideTerm}
use Rattle.rh_rule.specs.declared.rule.SideTerm.TheVariants.{Plain, Compute as Computed}
use Rattle.rh_rule.specs.declared.rule.Side.{Side}
use Rattle.rh_rule.specs.declared.rule.Side.TheVariants.{Same, Differ}
use Rattle.rh_rule.specs.declared.rule.Conclusion.{Conclusion}
use Rattle.rh_rule.specs.declared.rule.Conclusion.TheVariants.{Fact, Transform}
use Rattle.rh_rule.specs.declared.rule.Rule.{Rule}
use Rattle.rh_rule.specs.RuleFiles.{Rules}

-- the texts of some items, each after a separator but the first
abbrev pub joined : {X : Type 0} → List ℕ → (X → List ℕ) → List X → List ℕ
joined separator text [] = []
joined separator text (first ∷ others) = text first ++ flat_map (λ item. separator ++ text item) others

abbrev pub kind_text : Kind → List ℕ
kind_text Var = codes "var "
kind_text Const = codes "const "

abbrev pub param_text : Param → List ℕ
param_text param = kind_text param.kind ++ param.name

-- parameters after the name of a fact or a rule
abbrev pub params_text : List Param → List ℕ
params_text params = codes "(" ++ joined (codes ", ") param_text params ++ codes ")"

-- the name of the parameter or metavariable of a number
abbrev pub param_name : List Param → ℕ → List ℕ
param_name params number = option_map_or (λ param. param.name) (slice_get params number) []

-- an operand of a meaning
abbrev pub base_text : List Param → MeaningBase → List ℕ
base_text params (AParam param) = param_name params param
base_text params (ANumber number) = signed_decimal number

abbrev pub term_text : List Param → MeaningTerm → List ℕ
term_text params (APlain base) = base_text params base
term_text params (AnAddress param) = codes "&" ++ param_name params param
term_text params (Deref param) = codes "*" ++ param_name params param
term_text params (AComputation op left right) =
    codes "(" ++ base_text params left ++ codes " " ++ op_text op ++ codes " " ++ base_text params right ++ codes ")"

abbrev pub atom_text : List Param → MeaningAtom → List ℕ
atom_text params (AreSame s t) = term_text params s ++ codes " == " ++ term_text params t
atom_text params (DoDiffer s t) = term_text params s ++ codes " != " ++ term_text params t
atom_text params (IsNumber t) = codes "number(" ++ term_text params t ++ codes ")"
atom_text params (IsPointer t) = codes "pointer(" ++ term_text params t ++ codes ")"
atom_text params (Unaliased param) = codes "unaliased(" ++ param_name params param ++ codes ")"

-- the line of a schema
abbrev pub schema_text : Schema → List ℕ
schema_text schema =
    codes "fact " ++ schema.name ++ params_text schema.params ++ codes " means " ++ joined (codes " and ") (atom_text schema.params) schema.meaning ++ codes ";\n"

-- an operand of a rule
abbrev pub operand_text : List Param → RuleBase → List ℕ
operand_text params (Meta meta) = param_name params meta
operand_text params (Num number) = signed_decimal number
operand_text params Wild = codes "_"

abbrev pub compute_text : List Param → Op → RuleBase → RuleBase → List ℕ
compute_text params op left right =
    operand_text params left ++ codes " " ++ op_text op ++ codes " " ++ operand_text params right

-- the variable to the left of `:=`
abbrev pub to_text : List Param → ℕ → List ℕ
to_text params to = param_name params to ++ codes " := "

abbrev pub form_text : List Param → Form → List ℕ
form_text params (Entry param) = codes "entry(" ++ param_name params param ++ codes ")"
form_text params Goto = codes "goto"
form_text params Skip = codes "skip"
form_text params (AnyAssign to) = to_text params to ++ codes "_"
form_text params (Assign to from) = to_text params to ++ operand_text params from
form_text params (Address to of) = to_text params to ++ codes "&" ++ param_name params of
form_text params (Load to from) = to_text params to ++ codes "*" ++ param_name params from
form_text params (Compute to op left right) = to_text params to ++ compute_text params op left right
form_text params (Write to from) = codes "*" ++ to_text params to ++ operand_text params from
form_text params (New to) = to_text params to ++ codes "new"
form_text params (Call to arg) = to_text params to ++ codes "call(" ++ operand_text params arg ++ codes ")"
form_text params (If cond) = codes "if " ++ operand_text params cond
form_text params (Return value) = codes "return " ++ operand_text params value

-- the name of the schema of a number
abbrev pub schema_name : List Schema → ℕ → List ℕ
schema_name schemas number = option_map_or (λ schema. schema.name) (slice_get schemas number) []

-- a fact, without the edge that it is on
abbrev pub fact_text : List Schema → List Param → FactUse → List ℕ
fact_text schemas params fact =
    schema_name schemas fact.schema ++ codes "(" ++ joined (codes ", ") (operand_text params) fact.args ++ codes ")"

abbrev pub premise_text : List Schema → List Param → FactUse → List ℕ
premise_text schemas params fact = fact_text schemas params fact ++ codes " @ in"

abbrev pub side_term_text : List Param → SideTerm → List ℕ
side_term_text params (Plain base) = operand_text params base
side_term_text params (Computed op left right) = codes "(" ++ compute_text params op left right ++ codes ")"

abbrev pub side_text : List Param → Side → List ℕ
side_text params (Same s t) = side_term_text params s ++ codes " == " ++ side_term_text params t
side_text params (Differ s t) = side_term_text params s ++ codes " != " ++ side_term_text params t

-- conditions with a comma between each two, and a text before the first
abbrev pub listed : {X : Type 0} → List ℕ → (X → List ℕ) → List X → List ℕ
listed lead text [] = []
listed lead text (first ∷ others) = lead ++ text first ++ flat_map (λ item. codes ", " ++ text item) others

-- the premises, then the side conditions
abbrev pub conditions_text : List Schema → List Param → List FactUse → List Side → List ℕ
conditions_text schemas params [] sides = listed (codes " when ") (side_text params) sides
conditions_text schemas params (premise ∷ premises) sides =
    listed (codes " when ") (premise_text schemas params) (premise ∷ premises) ++ listed (codes ", ") (side_text params) sides

abbrev pub slot_text : Slot → List ℕ
slot_text Out = codes "out"
slot_text Then = codes "then"
slot_text Else = codes "else"

abbrev pub conclusion_text : List Schema → List Param → Conclusion → List ℕ
conclusion_text schemas params (Fact fact slot) = fact_text schemas params fact ++ codes " @ " ++ slot_text slot
conclusion_text schemas params (Transform template) = codes "transform " ++ form_text params template

-- what stands before the pattern of a rule
abbrev pub head_text : Rule → List ℕ
head_text rule = codes "rule " ++ rule.name ++ params_text rule.params ++ codes " { "

-- the line of a rule
abbrev pub rule_text : List Schema → Rule → List ℕ
rule_text schemas rule =
    head_text rule ++ form_text rule.params rule.pattern
    ++ conditions_text schemas rule.params rule.premises rule.sides ++ codes " => "
    ++ conclusion_text schemas rule.params rule.conclusion ++ codes " }\n"

-- the header, all schemas and then all rules, each on a line
abbrev pub file_text : Rules → List ℕ
file_text file = codes "rhodium 1;\n" ++ flat_map schema_text file.schemas ++ flat_map (rule_text file.schemas) file.rules
