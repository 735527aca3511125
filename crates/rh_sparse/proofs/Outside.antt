-- Where a rule has no instance: its pattern is of another form than the statement, or a number in it is no constant of the
-- procedure.
use Rattle.std.proofs.Common.{ℕ, ◌≡◌, ◌&&◌, false, List, ◌∙◌}
use Rattle.std.specs.Prelude.{slice_index_or}
use Rattle.std.proofs.lemmas.Bool.{and_left, and_right}
use Rattle.std.proofs.lemmas.List.Folds.{list_any_none}
use Rattle.rh_il.specs.declared.program.Edge.{Edge}
use Rattle.rh_il.specs.declared.program.Proc.{Proc}
use Rattle.rh_rule.specs.declared.rule.FactUse.{FactUse}
use Rattle.rh_rule.specs.declared.rule.Rule.{Rule}
use Rattle.rh_rule.specs.declared.schema.Schema.{Schema}
use Rattle.rh_domain.specs.Binding.{Binding, bindings}
use Rattle.rh_ground.specs.Forms.{may_match}
use Rattle.rh_ground.specs.Instance.{is_instance, is_rule_in, matches_at, rule_matches}
use Rattle.rh_ground.proofs.InstanceParts.{instance_parts, no_match}
use Rattle.rh_sparse.specs.Candidates.{fact_on, is_bit_of, some_concludes}

module _ (schemas : List Schema) (procs : List Proc) (place : ℕ) (proc : Proc) (edge : Edge) (rule : Rule) (concluded : FactUse) where
  -- without an instance nothing is concluded
  nothing : ((binding : Binding) → is_instance proc rule binding edge.node ≡ false) → (bit : ℕ) → some_concludes schemas procs place proc edge rule concluded bit ≡ false
  nothing none bit =
      list_any_none (λ binding. is_instance proc rule binding edge.node && is_bit_of schemas procs (fact_on place edge concluded binding) bit) (bindings proc rule.params)
      (λ k d below. let binding = slice_index_or (bindings proc rule.params) k d in and_left (is_instance proc rule binding edge.node) _ (none binding))

  pub outside : is_rule_in proc rule ≡ false → (bit : ℕ) → some_concludes schemas procs place proc edge rule concluded bit ≡ false
  outside none = nothing (λ binding. instance_parts proc rule binding edge.node ∙ and_right (rule_matches proc rule binding edge.node) (is_rule_in proc rule) none)

  -- nor by a pattern of another form
  pub mismatched : may_match proc rule.pattern edge.node ≡ false → (bit : ℕ) → some_concludes schemas procs place proc edge rule concluded bit ≡ false
  mismatched none = nothing (λ binding. and_left (matches_at proc binding rule.pattern edge.node) _ (no_match proc binding rule.pattern edge.node none))
