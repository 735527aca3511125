-- Where the template that takes the place of a statement is from.
use Rattle.std.proofs.Common.{ℕ, suc, ◌≡◌, true, List, [], ◌∷◌, Some, inl, inr, refl, sym, subst}
use Rattle.std.specs.List.{list_all}
use Rattle.std.specs.Prelude.{slice_get}
use Rattle.std.proofs.lemmas.Bool.{and_parts}
use Rattle.rh_il.specs.declared.program.Node.TheVariants.{At}
use Rattle.rh_il.specs.declared.program.Proc.{Proc}
use Rattle.rh_rule.specs.declared.rule.Conclusion.{Conclusion}
use Rattle.rh_rule.specs.declared.rule.Conclusion.TheVariants.{Fact, Transform}
use Rattle.rh_rule.specs.declared.rule.Rule.{Rule}
use Rattle.rh_rule.specs.declared.rule.Ruling.{Ruling}
use Rattle.rh_rule.specs.declared.rule.Ruling.TheVariants.{Admitted, Refused}
use Rattle.rh_domain.specs.Binding.{bindings}
use Rattle.rh_domain.specs.Facts.{Known}
use Rattle.rh_ground.specs.Instance.{is_instance}
use Rattle.rh_ground.specs.Rows.{premises_at}
use Rattle.rh_ground.proofs.Members.{IsItem, found_item, item_of_append, item_of_map}
use Rattle.rh_transform.specs.Rewritten.{Candidate, candidates, candidates_of, first_applicable, is_applicable}

-- where a candidate is from
pub record IsFrom (proc : Proc) (rules : List Rule) (rulings : List Ruling) (candidate : Candidate) : Type 0 where
  pub number : ℕ
  pub rule_at : slice_get rules number ≡ Some candidate.rule
  pub admitted : slice_get rulings number ≡ Some Admitted
  pub transforms : candidate.rule.conclusion ≡ Transform candidate.template
  pub bound_by : IsItem candidate.binding (bindings proc candidate.rule.params)

later : (proc : Proc) (rule : Rule) (rules : List Rule) (ruling : Ruling) (rulings : List Ruling) (candidate : Candidate) → IsFrom proc rules rulings candidate → IsFrom proc (rule ∷ rules) (ruling ∷ rulings) candidate
later proc rule rules ruling rulings candidate from =
    record { number = suc from.number; rule_at = from.rule_at; admitted = from.admitted; transforms = from.transforms; bound_by = from.bound_by }

from_rule : (proc : Proc) (rule : Rule) (rules : List Rule) (ruling : Ruling) (rulings : List Ruling) (conclusion : Conclusion) (candidate : Candidate)
    → rule.conclusion ≡ conclusion → IsItem candidate (candidates_of proc rule ruling conclusion) → IsFrom proc (rule ∷ rules) (ruling ∷ rulings) candidate
from_rule proc rule rules Admitted rulings (Transform template) candidate is there =
    let found = item_of_map (λ binding. record { rule = rule; template = template; binding = binding }) candidate (bindings proc rule.params) there in
    subst (IsFrom proc (rule ∷ rules) (Admitted ∷ rulings)) (sym found.2)
    (record { number = 0; rule_at = refl; admitted = refl; transforms = is; bound_by = found.1 })
from_rule proc rule rules Admitted rulings (Fact fact slot) candidate is there = absurd there
from_rule proc rule rules (Refused obligation) rulings conclusion candidate is there = absurd there

candidate_from : (proc : Proc) (rules : List Rule) (rulings : List Ruling) (candidate : Candidate) → IsItem candidate (candidates proc rules rulings) → IsFrom proc rules rulings candidate
candidate_from proc [] rulings candidate there = absurd there
candidate_from proc (rule ∷ rules) [] candidate there = absurd there
candidate_from proc (rule ∷ rules) (ruling ∷ rulings) candidate there =
    elim (item_of_append candidate (candidates_of proc rule ruling rule.conclusion) (candidates proc rules rulings) there) as (λ _. IsFrom proc (rule ∷ rules) (ruling ∷ rulings) candidate) [
      | inl here ↦ from_rule proc rule rules ruling rulings rule.conclusion candidate refl here
      | inr behind ↦ later proc rule rules ruling rulings candidate (candidate_from proc rules rulings candidate behind)
    ]

-- an applicable candidate of a proved rule
pub record IsFirst (proc : Proc) (rules : List Rule) (rulings : List Ruling) (known : Known) (place number : ℕ) (candidate : Candidate) : Type 0 where
  pub from : IsFrom proc rules rulings candidate
  pub is_instance : is_instance proc candidate.rule candidate.binding (At number) ≡ true
  pub premises : list_all known (premises_at place proc candidate.rule candidate.binding (At number)) ≡ true

pub first_is : (proc : Proc) (rules : List Rule) (rulings : List Ruling) (known : Known) (place number : ℕ) (candidate : Candidate)
    → first_applicable known rules rulings place proc number ≡ Some candidate → IsFirst proc rules rulings known place number candidate
first_is proc rules rulings known place number candidate is =
    let found = found_item (is_applicable known place proc number) candidate (candidates proc rules rulings) is in
    let parts = and_parts (is_instance proc candidate.rule candidate.binding (At number)) _ found.1 in
    record { from = candidate_from proc rules rulings candidate found.0; is_instance = parts.0; premises = parts.1 }
