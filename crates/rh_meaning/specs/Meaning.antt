-- Meanings of facts as literals over a store.
use Rattle.std.specs.Prelude.{ℕ, List, [], map, Some, None, slice_get, slice_index_or}
use Rattle.rh_rule.specs.declared.rule.FactUse.{FactUse}
use Rattle.rh_rule.specs.declared.rule.RuleBase.{RuleBase}
use Rattle.rh_rule.specs.declared.rule.RuleBase.TheVariants.{Meta, Wild}
use Rattle.rh_rule.specs.declared.schema.MeaningAtom.{MeaningAtom}
use Rattle.rh_rule.specs.declared.schema.MeaningAtom.TheVariants.{Same, Differ, IsNumber, IsPointer, Unaliased}
use Rattle.rh_rule.specs.declared.schema.MeaningBase.{MeaningBase}
use Rattle.rh_rule.specs.declared.schema.MeaningBase.TheVariants.{Param as AParam, Num as ALiteral}
use Rattle.rh_rule.specs.declared.schema.MeaningTerm.{MeaningTerm}
use Rattle.rh_rule.specs.declared.schema.MeaningTerm.TheVariants.{Plain, Address, Deref, Compute as AComputation}
use Rattle.rh_rule.specs.declared.schema.Param.{Param}
use Rattle.rh_rule.specs.declared.schema.Schema.{Schema}
use Rattle.rh_term.specs.declared.term.Term.TheVariants.{Num, Addr}
use Rattle.rh_meaning.specs.Tree.{Tree, Leaf, Select, Compute}
use Rattle.rh_meaning.specs.Literal.{TreeLit, equals, differs, number_tree, pointer_tree, unheld_tree, operand}

-- the argument in the place of a parameter
abbrev pub arg_at : List RuleBase → ℕ → RuleBase
arg_at args param = slice_index_or args param Wild

-- the metavariable that an argument is
abbrev pub meta_of : RuleBase → ℕ
meta_of (Meta meta) = meta
meta_of _ = 0

abbrev pub address_at : List RuleBase → ℕ → Tree
address_at args param = Leaf (Addr (meta_of (arg_at args param)))

abbrev pub meaning_operand : List Param → List RuleBase → Tree → MeaningBase → Tree
meaning_operand params args store (AParam param) = operand params store (arg_at args param)
meaning_operand params args store (ALiteral number) = Leaf (Num number)

-- a value that the meaning speaks of, with the arguments in the place of the parameters
abbrev pub meaning_tree : List Param → List RuleBase → Tree → MeaningTerm → Tree
meaning_tree params args store (Plain base) = meaning_operand params args store base
meaning_tree params args store (Address param) = address_at args param
meaning_tree params args store (Deref param) = Select store (Select store (address_at args param))
meaning_tree params args store (AComputation op left right) =
    Compute op (meaning_operand params args store left) (meaning_operand params args store right)

abbrev pub atom_literal : List Param → List RuleBase → Tree → MeaningAtom → TreeLit
atom_literal params args store (Same left right) = equals (meaning_tree params args store left) (meaning_tree params args store right)
atom_literal params args store (Differ left right) = differs (meaning_tree params args store left) (meaning_tree params args store right)
atom_literal params args store (IsNumber term) = number_tree (meaning_tree params args store term)
atom_literal params args store (IsPointer term) = pointer_tree (meaning_tree params args store term)
atom_literal params args store (Unaliased param) = unheld_tree store (address_at args param)

-- the literals of a schema's atoms, in their order
abbrev pub schema_literals : List Param → List RuleBase → Tree → Schema → List TreeLit
schema_literals params args store schema = map (atom_literal params args store) schema.meaning

-- the literals of a fact's atoms
abbrev pub fact_literals : List Schema → List Param → Tree → FactUse → List TreeLit
fact_literals schemas params store fact =
    elim (slice_get schemas fact.schema) as (λ _. List TreeLit) [ None ↦ [] | Some schema ↦ schema_literals params fact.args store schema ]
