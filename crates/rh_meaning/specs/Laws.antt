-- What the literals of a fact over a store say of a state.
use Rattle.std.specs.Prelude.{◌≡◌, ℕ, ◌+◌, IsTrue, List, [], ◌∷◌, length}
use Rattle.std.specs.List.{list_all}
use Rattle.rh_il.specs.declared.value.Value.{Value}
use Rattle.rh_il_step.specs.declared.frame.Frame.{Frame}
use Rattle.rh_rule.specs.declared.rule.Arg.{Arg}
use Rattle.rh_rule.specs.declared.rule.Arg.TheVariants.{Var, Const}
use Rattle.rh_rule.specs.declared.rule.RuleBase.{RuleBase}
use Rattle.rh_rule.specs.declared.rule.RuleBase.TheVariants.{Meta, Num}
use Rattle.rh_rule.specs.declared.schema.Kind.TheVariants.{Var as AVar, Const as AConst}
use Rattle.rh_rule.specs.declared.schema.Param.{Param}
use Rattle.rh_rule.specs.declared.schema.Schema.{Schema}
use Rattle.rh_rule.specs.Kinds.{args_fit}
use Rattle.rh_rule.specs.Params.{kind_of}
use Rattle.rh_rule.specs.RuleFiles.{SchemaPassed}
use Rattle.rh_term.specs.declared.clause.Lit.{Lit}
use Rattle.rh_term.specs.declared.term.Term.{Term}
use Rattle.rh_term.specs.Clause.{is_true_lit}
use Rattle.rh_term.specs.Model.{Model, AStore, denotation_at, denotations, same_in}
use Rattle.rh_term.specs.Term.{IsTermList, is_store_at}
use Rattle.rh_meaning.specs.Atoms.{IsFactPut}
use Rattle.rh_meaning.specs.Holds.{holds}

-- an operand stands for an argument: in the model, a metavariable for a variable is where the variables at the base
-- have it, and one for a number is that number
abbrev pub StandsFor : Model → ℕ → List Param → RuleBase → Arg → Type 0
StandsFor model base params (Meta meta) (Var number) = (kind_of params meta ≡ AVar) × (model.location meta ≡ base + number)
StandsFor model base params (Meta meta) (Const number) = (kind_of params meta ≡ AConst) × (model.number meta ≡ number)
StandsFor model base params (Num number) (Const other) = number ≡ other
StandsFor model base params operand arg = ⊥

-- each of the operands stands for the argument in its place
abbrev pub StandForAll : Model → ℕ → List Param → List RuleBase → List Arg → Type 0
StandForAll model base params [] [] = Unit {0}
StandForAll model base params (operand ∷ operands) (arg ∷ args) = StandsFor model base params operand arg × StandForAll model base params operands args
StandForAll model base params operands args = ⊥

-- the literals of a fact over a store of a list are true, in a model whose store is that of a state, exactly where the
-- fact holds in the state
abbrev pub LiteralsSayWhatHolds : Type 0
LiteralsSayWhatHolds =
    (model : Model) (schema : Schema) (params : List Param) (operands : List RuleBase) (args : List Arg) (old new : List Term) (store : ℕ) (placed : List Lit)
    (top : Frame) (below : List Frame) (cells : List Value)
    → IsTermList old → IsTermList new → IsTrue (is_store_at old store) → IsFactPut schema operands store old new placed
    → SchemaPassed schema → length operands ≡ length schema.params → IsTrue (args_fit params schema.params operands)
    → StandForAll model top.base params operands args → denotation_at (denotations model old) store ≡ AStore cells
    → list_all (is_true_lit (same_in model new)) placed ≡ holds schema args (record { frames = top ∷ below; cells = cells })
