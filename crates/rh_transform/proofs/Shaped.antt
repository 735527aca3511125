-- The statements of the rewritten program have the shapes of those that they take the place of.
use Rattle.std.proofs.Common.{ℕ, ◌≡◌, true, false, List, Option, Some, None, refl, ap, sym, ◌∙◌}
use Rattle.std.specs.Option.{option_map, option_map_or, option_and_then}
use Rattle.std.specs.Prelude.{slice_get}
use Rattle.std.proofs.lemmas.Bool.{and_parts}
use Rattle.rh_il.specs.declared.program.Node.{Node}
use Rattle.rh_il.specs.declared.program.Node.TheVariants.{Entry, At}
use Rattle.rh_il.specs.declared.program.Proc.{Proc}
use Rattle.rh_il.specs.declared.program.Slot.{Slot}
use Rattle.rh_il.specs.declared.program.Slot.TheVariants.{Out, Then, Else}
use Rattle.rh_il.specs.declared.program.Stmt.{Stmt}
use Rattle.rh_il.specs.Flow.{target_in, slot_target}
use Rattle.rh_rule.specs.declared.rule.Ruling.{Ruling}
use Rattle.rh_rule.specs.RuleFiles.{Rules, IsRuleFile}
use Rattle.rh_rule.proofs.Passed.{rule_passed}
use Rattle.rh_domain.specs.Facts.{Known}
use Rattle.rh_ground.specs.Match.{matches, template_under}
use Rattle.rh_ground.specs.Template.{IsTemplateOf}
use Rattle.rh_ground.proofs.Members.{read_all_numbered}
use Rattle.rh_ground.proofs.Shapes.{shape_of, shape_kept, shape_target, target_by_shape}
use Rattle.rh_transform.specs.Rewritten.{Candidate, first_applicable, rewritten_statement, rewritten_body}
use Rattle.rh_transform.proofs.Candidates.{IsFirst, first_is}
use Rattle.rh_transform.proofs.FromFiles.{template_of_rule}

-- the statement by the first candidate
abbrev pub by_first : Option Candidate → Stmt → Stmt
by_first first stmt = option_map_or (λ candidate. template_under candidate.binding candidate.template stmt) first stmt

module _ (file : Rules) (is_file : IsRuleFile file) (rulings : List Ruling) (known : Known) where
  -- a first candidate's template is of the class of its pattern
  pub fit_of : (proc : Proc) (place number : ℕ) (candidate : Candidate) → IsFirst proc file.rules rulings known place number candidate
      → IsTemplateOf candidate.rule.params candidate.rule.pattern candidate.template
  fit_of proc place number candidate first =
      template_of_rule file.schemas candidate.rule candidate.template (rule_passed file first.from.number candidate.rule is_file first.from.rule_at) first.from.transforms

  -- and its pattern is the statement
  pub pattern_is : (proc : Proc) (place number : ℕ) (stmt : Stmt) (candidate : Candidate) → slice_get proc.body number ≡ Some stmt → IsFirst proc file.rules rulings known place number candidate
      → matches candidate.binding candidate.rule.pattern stmt ≡ true
  pattern_is proc place number stmt candidate read first =
      ap (λ s. option_map_or (matches candidate.binding candidate.rule.pattern) s false) (sym read) ∙ (and_parts _ _ first.is_instance).0

  shape_by : (place : ℕ) (proc : Proc) (number : ℕ) (stmt : Stmt) (first : Option Candidate) → slice_get proc.body number ≡ Some stmt → first_applicable known file.rules rulings place proc number ≡ first
      → shape_of (by_first first stmt) ≡ shape_of stmt
  shape_by place proc number stmt None read is = refl
  shape_by place proc number stmt (Some candidate) read is =
      let first = first_is proc file.rules rulings known place number candidate is in
      shape_kept candidate.rule.params candidate.binding candidate.rule.pattern candidate.template stmt (fit_of proc place number candidate first) (pattern_is proc place number stmt candidate read first)

  -- the statement that takes the place of another leads where that one does
  pub shape_same : (place : ℕ) (proc : Proc) (number : ℕ) (stmt : Stmt) → slice_get proc.body number ≡ Some stmt
      → shape_of (rewritten_statement known file.rules rulings place proc number stmt) ≡ shape_of stmt
  shape_same place proc number stmt read = shape_by place proc number stmt (first_applicable known file.rules rulings place proc number) read refl

  pub body_at : (place : ℕ) (proc : Proc) (number : ℕ)
      → slice_get (rewritten_body known file.rules rulings place proc) number ≡ option_map (rewritten_statement known file.rules rulings place proc number) (slice_get proc.body number)
  body_at place proc number = read_all_numbered (rewritten_statement known file.rules rulings place proc) proc.body number

  target_of : (place : ℕ) (proc : Proc) (number : ℕ) (slot : Slot) (stmt : Option Stmt) → slice_get proc.body number ≡ stmt
      → option_and_then (λ s. slot_target s number slot) (option_map (rewritten_statement known file.rules rulings place proc number) stmt) ≡ option_and_then (λ s. slot_target s number slot) stmt
  target_of place proc number slot None read = refl
  target_of place proc number slot (Some stmt) read =
      target_by_shape (rewritten_statement known file.rules rulings place proc number stmt) number slot
      ∙ ap (λ shape. shape_target shape number slot) (shape_same place proc number stmt read)
      ∙ sym (target_by_shape stmt number slot)

  -- an edge enters the statement of the same number
  pub target_same : (place : ℕ) (proc : Proc) (node : Node) (slot : Slot) → target_in (rewritten_body known file.rules rulings place proc) node slot ≡ target_in proc.body node slot
  target_same place proc Entry Out = refl
  target_same place proc Entry Then = refl
  target_same place proc Entry Else = refl
  target_same place proc (At number) slot =
      ap (option_and_then (λ s. slot_target s number slot)) (body_at place proc number) ∙ target_of place proc number slot (slice_get proc.body number) refl
