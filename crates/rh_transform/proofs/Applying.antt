-- Looking for the first rule that applies, rule by rule.
use Rattle.std.proofs.Common.{ℕ, zero, suc, ◌≡◌, ◌+◌, ◌<◌, ◌≤◌, ◌&&◌, List, [], ◌∷◌, length, drop, Option, Some, None, unwrap_or, refl, ap, sym, ◌∙◌, arith}
use Rattle.std.proofs.Math.Seq.{drop-nil}
use Rattle.std.specs.List.{find, list_all}
use Rattle.std.specs.Option.{option_and_then, option_map, option_map_or, option_or}
use Rattle.std.specs.Prelude.{slice_get}
use Rattle.rh_il.specs.declared.program.Node.TheVariants.{At}
use Rattle.rh_il.specs.declared.program.Proc.{Proc}
use Rattle.rh_il.specs.declared.program.Stmt.{Stmt}
use Rattle.rh_rule.specs.declared.rule.Conclusion.TheVariants.{Transform}
use Rattle.rh_rule.specs.declared.rule.Form.{Form}
use Rattle.rh_rule.specs.declared.rule.Rule.{Rule}
use Rattle.rh_rule.specs.declared.rule.Ruling.{Ruling}
use Rattle.rh_rule.specs.declared.rule.Ruling.TheVariants.{Admitted}
use Rattle.rh_domain.specs.Binding.{Binding, bindings}
use Rattle.rh_domain.specs.Facts.{Known}
use Rattle.rh_ground.specs.Instance.{is_instance}
use Rattle.rh_ground.specs.Match.{template_under}
use Rattle.rh_ground.specs.Rows.{premises_at}
use Rattle.rh_ground.proofs.FindLists.{find_append, find_map}
use Rattle.rh_transform.specs.Rewritten.{Candidate, candidates, candidates_of, is_applicable, template_by, template_of}

mapped_or : {X Y : Type 0} (f : X → Y) (a b : Option X) → option_map f (option_or a b) ≡ option_or (option_map f a) (option_map f b)
mapped_or f None b = refl
mapped_or f (Some x) b = refl

mapped_twice : {X Y Z : Type 0} (f : X → Y) (g : Y → Z) (found : Option X) → option_map (λ x. g (f x)) found ≡ option_map g (option_map f found)
mapped_twice f g None = refl
mapped_twice f g (Some x) = refl

pub mapped_with : {X Y : Type 0} (f : X → Y) (found : Option X) (otherwise : Y) → unwrap_or (option_map f found) otherwise ≡ option_map_or f found otherwise
mapped_with f None otherwise = refl
mapped_with f (Some x) otherwise = refl

module _ (known : Known) (place : ℕ) (proc : Proc) (number : ℕ) (stmt : Stmt) where
  abbrev pub made : Candidate → Stmt
  made candidate = template_under candidate.binding candidate.template stmt

  -- the template of the first applicable candidate of the rules from a number on
  abbrev pub first_from : List Rule → List Ruling → ℕ → Option Stmt
  first_from rules rulings at = option_map made (find (is_applicable known place proc number) (candidates proc (drop at rules) (drop at rulings)))

  no_rulings : (rules : List Rule) (at : ℕ) → first_from rules [] at ≡ None
  no_rulings rules at =
      ap (λ rs. option_map made (find (is_applicable known place proc number) (candidates proc (drop at rules) rs))) (drop-nil {A = Ruling} at)
      ∙ elim (drop at rules) as (λ rs. option_map made (find (is_applicable known place proc number) (candidates proc rs [])) ≡ None) [ [] ↦ refl | rule ∷ others ↦ refl ]

  abbrev template : List Rule → List Ruling → ℕ → Option Stmt
  template rules rulings at = template_by known rules rulings place proc number stmt at

  not_ruled : (rule : Option Rule) → option_or (option_and_then (λ r. option_and_then (template_of known place proc number stmt r) None) rule) None ≡ None
  not_ruled None = refl
  not_ruled (Some rule) = refl

  -- that of the rule with the number, and otherwise of those after it
  pub from_next : (rules : List Rule) (rulings : List Ruling) (at : ℕ) → at < length rules
      → first_from rules rulings at ≡ option_or (template_by known rules rulings place proc number stmt at) (first_from rules rulings (at + 1))
  from_next [] rulings at below = absurd (omega (arith, below))
  from_next (rule ∷ rules) [] at below =
      no_rulings (rule ∷ rules) at
      ∙ sym (ap (option_or (template (rule ∷ rules) [] at)) (no_rulings (rule ∷ rules) (at + 1)) ∙ not_ruled (slice_get (rule ∷ rules) at))
  from_next (rule ∷ rules) (ruling ∷ rulings) zero below =
      ap (option_map made) (find_append (is_applicable known place proc number) (candidates_of proc rule ruling rule.conclusion) (candidates proc rules rulings))
      ∙ mapped_or made (find (is_applicable known place proc number) (candidates_of proc rule ruling rule.conclusion)) (find (is_applicable known place proc number) (candidates proc rules rulings))
  from_next (rule ∷ rules) (ruling ∷ rulings) (suc at) below =
      let next : suc (at + 1) ≡ suc at + 1 = omega arith in
      from_next rules rulings at (omega (arith, below))
      ∙ ap (λ n. option_or (template rules rulings at) (first_from (rule ∷ rules) (ruling ∷ rulings) n)) next

  -- no rule is left
  pub none_left : (rules : List Rule) (rulings : List Ruling) (at : ℕ) → length rules ≤ at → first_from rules rulings at ≡ None
  none_left [] rulings zero past = refl
  none_left [] rulings (suc at) past = refl
  none_left (rule ∷ rules) rulings zero past = absurd (omega (arith, past))
  none_left (rule ∷ rules) [] (suc at) past = no_rulings (rule ∷ rules) (suc at)
  none_left (rule ∷ rules) (ruling ∷ rulings) (suc at) past = none_left rules rulings at (omega (arith, past))

  -- the template under the first binding under which a proved rule applies
  pub found_by : (rules : List Rule) (rulings : List Ruling) (at : ℕ) (rule : Rule) (form : Form) (found : Option Binding)
      → slice_get rules at ≡ Some rule → slice_get rulings at ≡ Some Admitted → rule.conclusion ≡ Transform form
      → found ≡ find (λ binding. is_instance proc rule binding (At number) && list_all known (premises_at place proc rule binding (At number))) (bindings proc rule.params)
      → option_map (λ binding. template_under binding form stmt) found ≡ template_by known rules rulings place proc number stmt at
  found_by rules rulings at rule form found read ruled transforms is =
      let candidate : Binding → Candidate = λ binding. record { rule = rule; template = form; binding = binding } in
      mapped_twice candidate made found
      ∙ ap (λ o. option_map made (option_map candidate o)) is
      ∙ ap (option_map made) (sym (find_map (is_applicable known place proc number) candidate (bindings proc rule.params)))
      ∙ ap (λ conclusion. option_map made (find (is_applicable known place proc number) (candidates_of proc rule Admitted conclusion))) (sym transforms)
      ∙ ap (option_and_then (template_of known place proc number stmt rule)) (sym ruled)
      ∙ ap (option_and_then (λ r. option_and_then (template_of known place proc number stmt r) (slice_get rulings at))) (sym read)
