-- A node of a procedure of a program.
use Rattle.std.specs.Prelude.{ℕ, ◌≡◌, false, List, Some, slice_get}
use Rattle.rh_il.specs.declared.program.Node.{Node}
use Rattle.rh_il.specs.declared.program.Proc.{Proc}
use Rattle.rh_rule.specs.declared.rule.Rule.{Rule}
use Rattle.rh_rule.specs.declared.schema.Schema.{Schema}
use Rattle.rh_domain.specs.declared.domain.Domain.{Domain}
use Rattle.rh_domain.specs.Binding.{Binding, domain_of}
use Rattle.rh_domain.specs.Count.{IsSmall}
use Rattle.rh_layout.specs.declared.layout.Layout.{Layout}
use Rattle.rh_layout.specs.Entering.{numbers_before}
use Rattle.rh_layout.specs.Layout.{IsLayoutOf}
use Rattle.rh_ground.specs.Instance.{is_instance}

-- the procedure stands at the place, the layout and the domain are made for it, and these are the numbers of the edges
-- that enter the node
pub record IsSite (schemas : List Schema) (procs : List Proc) (layout : Layout) (proc : Proc) (domain : Domain) (entering : List ℕ) (place : ℕ) (node : Node) : Type 0 where
  pub laid : IsLayoutOf schemas procs layout
  pub proc_at : slice_get procs place ≡ Some proc
  pub domain_is : domain ≡ domain_of proc
  pub small : IsSmall domain
  pub entering_are : entering ≡ numbers_before proc node

-- no rule is about the node of the procedure at the place
abbrev pub IsBare : List Proc → ℕ → Node → Type 0
IsBare procs place node = (proc : Proc) (rule : Rule) (binding : Binding) → slice_get procs place ≡ Some proc → is_instance proc rule binding node ≡ false
