-- The first instance of a rule of a file, and where there is none.
use Rattle.std.proofs.Common.{ℕ, ◌≡◌, ◌≤◌, ◌&&◌, List, length, Option, Some, None, ap, sym, ◌∙◌}
use Rattle.std.specs.List.{find, list_all}
use Rattle.std.specs.Prelude.{slice_get}
use Rattle.std.proofs.lemmas.Option.{same_Some}
use Rattle.rh_il.specs.declared.program.Node.{Node}
use Rattle.rh_il.specs.declared.program.Proc.{Proc}
use Rattle.rh_rule.specs.declared.rule.Rule.{Rule}
use Rattle.rh_rule.specs.declared.schema.Schema.{Schema}
use Rattle.rh_rule.specs.RuleFiles.{IsRuleFile, Rules}
use Rattle.rh_rule.proofs.Passed.{rule_passed}
use Rattle.rh_domain.specs.Binding.{Binding, bindings}
use Rattle.rh_ground.specs.Instance.{is_instance}
use Rattle.rh_ground.specs.Rows.{premises_at}
use Rattle.rh_ground.proofs.FindLists.{find_none}
use Rattle.rh_system.specs.Bits.{BitSet}
use Rattle.rh_rows.specs.Known.{known_by}
use Rattle.rh_rows.specs.Site.{IsBare}

-- the first binding under which the rule is about the node, and its premises are known
abbrev pub first_known : List Schema → List Proc → BitSet → ℕ → Proc → Node → Rule → Option Binding
first_known schemas procs set place proc node rule =
    find (λ binding. is_instance proc rule binding node && list_all (known_by schemas procs set) (premises_at place proc rule binding node)) (bindings proc rule.params)

pub none_known : (schemas : List Schema) (procs : List Proc) (set : BitSet) (place : ℕ) (proc : Proc) (node : Node) (rule : Rule) → slice_get procs place ≡ Some proc → IsBare procs place node
    → first_known schemas procs set place proc node rule ≡ None
none_known schemas procs set place proc node rule at bare =
    find_none _ (bindings proc rule.params) (λ binding. ap (λ b. b && list_all (known_by schemas procs set) (premises_at place proc rule binding node)) (bare proc rule binding at))

pub few_params : (file : Rules) (number : ℕ) (rule : Rule) → IsRuleFile file → slice_get file.rules number ≡ Some rule → length rule.params ≤ 6
few_params file number rule is at = (rule_passed file number rule is at).params

-- the same for parts that are equal
pub same_known : (given schemas : List Schema) (others procs : List Proc) (set : BitSet) (from place : ℕ) (about proc : Proc) (at node : Node) (law rule : Rule) → given ≡ schemas → others ≡ procs → from ≡ place → about ≡ proc → at ≡ node → law ≡ rule
    → first_known given others set from about at law ≡ first_known schemas procs set place proc node rule
same_known given schemas others procs set from place about proc at node law rule s p l a n r = λ i. first_known (s i) (p i) set (l i) (a i) (n i) (r i)

pub one_proc : (others procs : List Proc) (from place : ℕ) (about proc : Proc) → others ≡ procs → from ≡ place → slice_get others from ≡ Some about → slice_get procs place ≡ Some proc → about ≡ proc
one_proc others procs from place about proc p l here there = same_Some about proc (sym here ∙ (λ i. slice_get (p i) (l i)) ∙ there)
