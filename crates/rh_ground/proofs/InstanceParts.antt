-- What makes an instance: the rule matches the node, and its numbers are constants of the procedure.
use Rattle.std.proofs.Common.{◌≡◌, ◌&&◌, Bool, true, false, Option, Some, None, refl, sym, ◌∙◌}
use Rattle.std.specs.List.{list_all}
use Rattle.std.specs.Option.{option_map_or}
use Rattle.std.specs.Prelude.{slice_get}
use Rattle.std.proofs.lemmas.Bool.{false_from_ne_true, false≢true}
use Rattle.rh_il.specs.declared.program.Node.{Node}
use Rattle.rh_il.specs.declared.program.Node.TheVariants.{At, Entry as AtEntry}
use Rattle.rh_il.specs.declared.program.Proc.{Proc}
use Rattle.rh_il.specs.declared.program.Stmt.{Stmt}
use Rattle.rh_rule.specs.declared.rule.Form.{Form}
use Rattle.rh_rule.specs.declared.rule.Form.TheVariants.{Entry}
use Rattle.rh_rule.specs.declared.rule.Rule.{Rule}
use Rattle.rh_domain.specs.Binding.{Binding}
use Rattle.rh_ground.specs.Forms.{is_form_of, may_match}
use Rattle.rh_ground.specs.Match.{matches}
use Rattle.rh_ground.proofs.SameForm.{matched_form}
use Rattle.rh_ground.specs.Instance.{is_instance, is_rule_in, matches_at, rule_matches, side_holds}

-- a pattern of another form is no statement
pub other_form : (binding : Binding) (pattern : Form) (stmt : Stmt) → is_form_of pattern stmt ≡ false → matches binding pattern stmt ≡ false
other_form binding pattern stmt other = false_from_ne_true (matches binding pattern stmt) (λ is. false≢true (sym other ∙ matched_form binding pattern stmt is))

-- nor does it match a node
pub no_match : (proc : Proc) (binding : Binding) (pattern : Form) (node : Node) → may_match proc pattern node ≡ false → matches_at proc binding pattern node ≡ false
no_match proc binding pattern (At number) none = by (slice_get proc.body number) none
  where
    by : (found : Option Stmt) → option_map_or (is_form_of pattern) found false ≡ false → option_map_or (matches binding pattern) found false ≡ false
    by None other = refl
    by (Some stmt) other = other_form binding pattern stmt other
no_match proc binding (Entry param) AtEntry none = absurd (false≢true (sym none))
no_match proc binding _ AtEntry none = refl

grouped : (a b c : Bool) → (a && (b && c)) ≡ ((a && b) && c)
grouped true b c = refl
grouped false b c = refl

pub instance_parts : (proc : Proc) (rule : Rule) (binding : Binding) (node : Node) → is_instance proc rule binding node ≡ (rule_matches proc rule binding node && is_rule_in proc rule)
instance_parts proc rule binding node = grouped (matches_at proc binding rule.pattern node) (list_all (side_holds binding) rule.sides) (is_rule_in proc rule)

and_all : (a b : Bool) → b ≡ true → (a && b) ≡ a
and_all true b is = is
and_all false b is = refl

-- inside, the match decides
pub inside_instance : (proc : Proc) (rule : Rule) (binding : Binding) (node : Node) → is_rule_in proc rule ≡ true → is_instance proc rule binding node ≡ rule_matches proc rule binding node
inside_instance proc rule binding node inside = instance_parts proc rule binding node ∙ and_all (rule_matches proc rule binding node) (is_rule_in proc rule) inside
