-- When a fact holds in a state: each atom of its schema's meaning is true there.
use Rattle.std.specs.Prelude.{ℕ, ◌+◌, ◌<◌, pos, Bool, false, not, List, [], ◌∷◌, slice_index_or}
use Rattle.std.specs.List.{All, list_all}
use Rattle.rh_il.specs.declared.value.Value.{Value}
use Rattle.rh_il.specs.declared.value.Value.TheVariants.{Num as ANumber, Ptr as APointer}
use Rattle.rh_il.specs.Op.{total}
use Rattle.rh_il.specs.Value.{value_eq}
use Rattle.rh_il_step.specs.State.{State}
use Rattle.rh_il_step.specs.declared.frame.Frame.{Frame}
use Rattle.rh_rule.specs.declared.rule.Arg.{Arg}
use Rattle.rh_rule.specs.declared.rule.Arg.TheVariants.{Var, Const}
use Rattle.rh_rule.specs.declared.schema.MeaningAtom.{MeaningAtom}
use Rattle.rh_rule.specs.declared.schema.MeaningAtom.TheVariants.{Same, Differ, IsNumber, IsPointer, Unaliased}
use Rattle.rh_rule.specs.declared.schema.MeaningBase.{MeaningBase}
use Rattle.rh_rule.specs.declared.schema.MeaningBase.TheVariants.{Param as AParam, Num as ALiteral}
use Rattle.rh_rule.specs.declared.schema.MeaningTerm.{MeaningTerm}
use Rattle.rh_rule.specs.declared.schema.MeaningTerm.TheVariants.{Plain, Address, Deref, Compute}
use Rattle.rh_rule.specs.declared.schema.Schema.{Schema}
use Rattle.rh_term.specs.Model.{is_number}
use Rattle.rh_term.specs.Store.{is_unheld, read, select}

-- the argument in the place of a parameter
abbrev pub ground_arg : List Arg → ℕ → Arg
ground_arg args param = slice_index_or args param (Const (pos 0))

-- the value of an argument, for the variables at a base: what the cell of the variable holds, or the number
abbrev pub arg_value : ℕ → List Value → Arg → Value
arg_value base cells (Var number) = read cells (base + number)
arg_value base cells (Const number) = ANumber number

-- the pointer to the variable that an argument is
abbrev pub arg_pointer : ℕ → Arg → Value
arg_pointer base (Var number) = APointer (base + number)
arg_pointer base (Const number) = APointer base

abbrev pub base_meant : ℕ → List Value → List Arg → MeaningBase → Value
base_meant base cells args (AParam param) = arg_value base cells (ground_arg args param)
base_meant base cells args (ALiteral number) = ANumber number

-- what a meaning speaks of: a value, the pointer to a variable, the cell that a variable's value names, or
-- what an operator gives
abbrev pub term_meant : ℕ → List Value → List Arg → MeaningTerm → Value
term_meant base cells args (Plain term) = base_meant base cells args term
term_meant base cells args (Address param) = arg_pointer base (ground_arg args param)
term_meant base cells args (Deref param) = select cells (select cells (arg_pointer base (ground_arg args param)))
term_meant base cells args (Compute op left right) = total op (base_meant base cells args left) (base_meant base cells args right)

abbrev pub atom_holds : ℕ → List Value → List Arg → MeaningAtom → Bool
atom_holds base cells args (Same left right) = value_eq (term_meant base cells args left) (term_meant base cells args right)
atom_holds base cells args (Differ left right) = not (value_eq (term_meant base cells args left) (term_meant base cells args right))
atom_holds base cells args (IsNumber term) = is_number (term_meant base cells args term)
atom_holds base cells args (IsPointer term) = not (is_number (term_meant base cells args term))
atom_holds base cells args (Unaliased param) = is_unheld cells (arg_pointer base (ground_arg args param))

-- the fact holds for the variables at a base over these cells
abbrev pub holds_over : ℕ → List Value → Schema → List Arg → Bool
holds_over base cells schema args = list_all (atom_holds base cells args) schema.meaning

abbrev pub holds_in : List Frame → List Value → Schema → List Arg → Bool
holds_in [] cells schema args = false
holds_in (top ∷ below) cells schema args = holds_over top.base cells schema args

-- the fact holds in the state, over the variables of its top frame
abbrev pub holds : Schema → List Arg → State → Bool
holds schema args state = holds_in state.frames state.cells schema args

-- a variable among the arguments has one of so many cells
abbrev pub HasCell : ℕ → ℕ → Arg → Type 0
HasCell base cells (Var number) = base + number < cells
HasCell base cells (Const number) = Unit {0}

-- so do all variables among the arguments, at the base of the top frame
abbrev pub HaveCells : List Frame → ℕ → List Arg → Type 0
HaveCells [] cells args = Unit {0}
HaveCells (top ∷ below) cells args = All (HasCell top.base cells) args
