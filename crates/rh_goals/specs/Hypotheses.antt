-- What an obligation of a rule may take for granted.
use Rattle.std.specs.Prelude.{ℕ, ◌==◌, pos, Bool, true, false, not, List, [], ◌∷◌, ◌++◌, map, length}
use Rattle.std.specs.List.{flat_map, filter, range_with_len}
use Rattle.rh_il.specs.declared.program.Slot.{Slot}
use Rattle.rh_il.specs.declared.program.Slot.TheVariants.{Then, Else}
use Rattle.rh_rule.specs.declared.rule.Conclusion.{Conclusion}
use Rattle.rh_rule.specs.declared.rule.Conclusion.TheVariants.{Fact, Transform}
use Rattle.rh_rule.specs.declared.rule.Form.{Form}
use Rattle.rh_rule.specs.declared.rule.Form.TheVariants.{Entry, New, Call, If}
use Rattle.rh_rule.specs.declared.rule.Rule.{Rule}
use Rattle.rh_rule.specs.declared.rule.RuleBase.{RuleBase}
use Rattle.rh_rule.specs.declared.rule.RuleBase.TheVariants.{Meta, Num as ANumber, Wild}
use Rattle.rh_rule.specs.declared.rule.Side.{Side}
use Rattle.rh_rule.specs.declared.rule.Side.TheVariants.{Same, Differ}
use Rattle.rh_rule.specs.declared.rule.SideTerm.{SideTerm}
use Rattle.rh_rule.specs.declared.rule.SideTerm.TheVariants.{Plain, Compute as AComputation}
use Rattle.rh_rule.specs.declared.schema.Kind.{Kind}
use Rattle.rh_rule.specs.declared.schema.Kind.TheVariants.{Var, Const}
use Rattle.rh_rule.specs.declared.schema.Param.{Param}
use Rattle.rh_rule.specs.Params.{kind_of}
use Rattle.rh_rule.specs.declared.schema.Schema.{Schema}
use Rattle.rh_term.specs.declared.term.Term.TheVariants.{Num, Any, Fresh, Answer, After, Start, Yes}
use Rattle.rh_meaning.specs.Tree.{Tree, Leaf, Select, Compute, Unheld}
use Rattle.rh_meaning.specs.Literal.{TreeLit, TreeClause, equals, differs, pointer_tree, unheld_tree, binding_tree}
use Rattle.rh_meaning.specs.Meaning.{fact_literals}
use Rattle.rh_goals.specs.Statement.{before, address, variable, value, step_literals}

-- an operand of a side condition: variables are compared as such, and so by their addresses
abbrev pub side_operand : List Param → RuleBase → Tree
side_operand params (Meta meta) = binding_tree meta (kind_of params meta)
side_operand params (ANumber number) = Leaf (Num number)
side_operand params Wild = Leaf Any

abbrev pub side_tree : List Param → SideTerm → Tree
side_tree params (Plain base) = side_operand params base
side_tree params (AComputation op left right) = Compute op (side_operand params left) (side_operand params right)

abbrev pub side_literal : List Param → Side → TreeLit
side_literal params (Same left right) = equals (side_tree params left) (side_tree params right)
side_literal params (Differ left right) = differs (side_tree params left) (side_tree params right)

-- that the branch goes the way of the conclusion
abbrev pub slot_literals : List Param → Form → Slot → List TreeLit
slot_literals params (If cond) Then = differs (value params cond) (Leaf (Num (pos 0))) ∷ []
slot_literals params (If cond) Else = equals (value params cond) (Leaf (Num (pos 0))) ∷ []
slot_literals params pattern slot = []

-- the metavariables that are bound to variables
abbrev pub is_var : Kind → Bool
is_var Var = true
is_var Const = false

abbrev pub var_metas : List Param → List ℕ
var_metas params = filter (λ meta. is_var (kind_of params meta)) (range_with_len 0 (length params))

-- what a new cell is: no cell holds the pointer to it, it holds 0, and it is none of the variables
abbrev pub new_clauses : List ℕ → List TreeClause
new_clauses metas =
    (pointer_tree (Leaf Fresh) ∷ []) ∷ (unheld_tree before (Leaf Fresh) ∷ [])
    ∷ (equals (Select before (Leaf Fresh)) (Leaf (Num (pos 0))) ∷ [])
    ∷ map (λ meta. differs (Leaf Fresh) (address meta) ∷ []) metas

-- what a call leaves of a variable to which no cell pointed: its value, that no cell points to it, and
-- that the answer does not either
abbrev pub call_clauses_of : ℕ → List TreeClause
call_clauses_of meta =
    let escaped = differs (Unheld before (address meta)) (Leaf Yes) in
    (escaped ∷ equals (Select (Leaf After) (address meta)) (variable meta) ∷ [])
    ∷ (escaped ∷ unheld_tree (Leaf After) (address meta) ∷ [])
    ∷ (escaped ∷ differs (Leaf Answer) (address meta) ∷ []) ∷ []

-- a local is 0: it is the parameter, or holds 0
abbrev pub local_clause : ℕ → ℕ → TreeClause
local_clause param meta = equals (address meta) (address param) ∷ equals (Select (Leaf Start) (address meta)) (Leaf (Num (pos 0))) ∷ []

-- what a procedure begins with: no cell points to its variables, and its locals are 0
abbrev pub entry_clauses : List ℕ → ℕ → List TreeClause
entry_clauses metas param =
    map (λ meta. unheld_tree (Leaf Start) (address meta) ∷ []) metas
    ++ map (local_clause param) (filter (λ meta. not (meta == param)) metas)

-- what the form of the statement says of its own, in a propagation rule
abbrev pub own_clauses : List Param → Form → List TreeClause
own_clauses params (New to) = new_clauses (var_metas params)
own_clauses params (Call to arg) = flat_map call_clauses_of (var_metas params)
own_clauses params (Entry param) = entry_clauses (var_metas params) param
own_clauses params _ = []

-- one clause for each literal
abbrev pub units : List TreeLit → List TreeClause
units lits = map (λ lit. lit ∷ []) lits

-- what the conclusion adds
abbrev pub conclusion_clauses : List Param → Form → Conclusion → List TreeClause
conclusion_clauses params pattern (Fact fact slot) = units (slot_literals params pattern slot) ++ own_clauses params pattern
conclusion_clauses params pattern (Transform template) = []

-- the premises, the side conditions, what the statement needs to step, the way that it goes, and what
-- its form says of its own
abbrev pub hypotheses : List Schema → Rule → List TreeClause
hypotheses schemas rule =
    units (flat_map (fact_literals schemas rule.params before) rule.premises)
    ++ units (map (side_literal rule.params) rule.sides)
    ++ units (step_literals rule.params rule.pattern)
    ++ conclusion_clauses rule.params rule.pattern rule.conclusion
