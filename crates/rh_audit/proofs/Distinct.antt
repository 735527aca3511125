-- The rules of a rule file have different names.
use Rattle.std.proofs.Common.{◌≡◌, ℕ, zero, suc, ◌<◌, ◌⊎◌, Bool, true, false, not, List, [], ◌∷◌, take, length, Option, Some, refl, ap, sym, ◌∙◌, arith, inl, inr}
use Rattle.std.proofs.lemmas.Bool.{both_ways, cases_order, cases_Bool, not-true, or_parts}
use Rattle.std.proofs.lemmas.Option.{none-some, same_Some, slice_get_within}
use Rattle.std.proofs.lemmas.Slice.Eq.{bytes_eq-Decides}
use Rattle.std.specs.Prelude.{nat_le, slice_get}
use Rattle.std.specs.List.{list_any}
use Rattle.std.specs.Option.{option_and_then, option_map_or, option_or}
use Rattle.std.specs.Str.{bytes_eq}
use Rattle.rh_il.specs.Checks.{first_some}
use Rattle.rh_il.proofs.Passed.{none_at, none_parts}
use Rattle.rh_log_text.specs.declared.logs.RuleLogs.{RuleLogs}
use Rattle.rh_rule.specs.declared.fault.Item.TheVariants.{Fact as FactItem, File, Rule as RuleItem}
use Rattle.rh_rule.specs.declared.fault.Many.TheVariants.{Facts as TooManyFacts, Rules as TooManyRules}
use Rattle.rh_rule.specs.declared.fault.RuleWrong.TheVariants.{DuplicateName, Limit}
use Rattle.rh_rule.specs.declared.rule.Rule.{Rule}
use Rattle.rh_rule.specs.Checks.{file_fault, is_new_rule_at, is_new_schema_at, rule_fault, schema_fault, unless}
use Rattle.rh_rule.specs.RuleFiles.{IsRuleFile, Rules}
use Rattle.rh_rule.proofs.Passed.{passes}
use Rattle.rh_audit.specs.Faults.{IsOf}

-- what no item of a front passes, the one at a place of it does not
fails_at : {X : Type 0} (test : X → Bool) (xs : List X) (i j : ℕ) (x : X) → j < i → slice_get xs j ≡ Some x → list_any test (take i xs) ≡ false → test x ≡ false
fails_at test [] i j x below read none = absurd (none-some x read)
fails_at test (y ∷ xs) zero j x below read none = absurd (omega (arith, below))
fails_at test (y ∷ xs) (suc i) zero x below read none = ap test (sym (same_Some y x read)) ∙ (or_parts (test y) (list_any test (take i xs)) none).0
fails_at test (y ∷ xs) (suc i) (suc j) x below read none = fails_at test xs i j x (omega (arith, below)) read (or_parts (test y) (list_any test (take i xs)) none).1

new_rule : (file : Rules) (i : ℕ) → IsRuleFile file → i < length file.rules → is_new_rule_at file.rules i ≡ true
unfolding file_fault
new_rule file i is within =
    let new_schemas = first_some (length file.schemas) (λ k. unless (is_new_schema_at file.schemas k) DuplicateName (FactItem k)) in
    let new_rules = first_some (length file.rules) (λ k. unless (is_new_rule_at file.rules k) DuplicateName (RuleItem k)) in
    let schemas = first_some (length file.schemas) (λ k. option_and_then (schema_fault k) (slice_get file.schemas k)) in
    let rules = first_some (length file.rules) (λ k. option_and_then (rule_fault file.schemas k) (slice_get file.rules k)) in
    let later = option_or new_rules (option_or schemas rules) in
    let fewer = option_or (unless (nat_le (length file.rules) 256) (Limit TooManyRules) File) (option_or new_schemas later) in
    let a = none_parts (unless (nat_le (length file.schemas) 64) (Limit TooManyFacts) File) fewer is.passes in
    let b = none_parts (unless (nat_le (length file.rules) 256) (Limit TooManyRules) File) (option_or new_schemas later) a.1 in
    let c = none_parts new_schemas later b.1 in
    let d = none_parts new_rules (option_or schemas rules) c.1 in
    passes (is_new_rule_at file.rules i) DuplicateName (RuleItem i) (none_at (length file.rules) (λ k. unless (is_new_rule_at file.rules k) DuplicateName (RuleItem k)) i d.0 within)

differ : (file : Rules) (i j : ℕ) (a b : Rule) → IsRuleFile file → j < i → slice_get file.rules i ≡ Some a → slice_get file.rules j ≡ Some b → a.name ≡ b.name → ⊥
differ file i j a b is below later earlier same =
    let none : not (list_any (λ (other : Rule). bytes_eq a.name other.name) (take i file.rules)) ≡ true =
    ap (λ (found : Option Rule). option_map_or (λ (rule : Rule). not (list_any (λ (other : Rule). bytes_eq rule.name other.name) (take i file.rules))) found true) (sym later)
    ∙ new_rule file i is (slice_get_within file.rules i a later) in
    both_ways (bytes_eq a.name b.name) (fails_at (λ (other : Rule). bytes_eq a.name other.name) file.rules i j b below earlier (not-true _ none)) ((bytes_eq-Decides a.name b.name).1 same)

one_place : (file : Rules) (i j : ℕ) (a b : Rule) → IsRuleFile file → slice_get file.rules i ≡ Some a → slice_get file.rules j ≡ Some b → a.name ≡ b.name → i ≡ j
one_place file i j a b is one other same = elim (cases_order i j) [
  | inl equal ↦ equal
  | inr which ↦ elim which [
    | inl before ↦ absurd (differ file j i b a is before other one (sym same))
    | inr after ↦ absurd (differ file i j a b is after one other same)
  ]
]

-- a section names one rule at most
pub one_rule : (file : Rules) (section : RuleLogs) (i j : ℕ) (a b : Rule) → IsRuleFile file → IsOf file section i a → IsOf file section j b → (i ≡ j) × (a ≡ b)
one_rule file section i j a b is one other =
    let place : i ≡ j = one_place file i j a b is one.stands other.stands (sym one.named ∙ other.named) in
    (place, same_Some a b (sym one.stands ∙ ap (slice_get file.rules) place ∙ other.stands))

-- some rule has the name, or none has
pub any_rule : (rules : List Rule) (name : List ℕ) → ((number : ℕ) × (rule : Rule) × (slice_get rules number ≡ Some rule) × (name ≡ rule.name))
    ⊎ ((number : ℕ) (rule : Rule) → slice_get rules number ≡ Some rule → name ≡ rule.name → ⊥)
any_rule [] name = inr (λ number rule read same. none-some rule read)
any_rule (first ∷ rules) name = elim (cases_Bool (bytes_eq name first.name)) [
  | inl is ↦ inl (zero, first, refl, (bytes_eq-Decides name first.name).0 is)
  | inr differs ↦ elim (any_rule rules name) [
    | inl there ↦ inl (suc there.0, there.1, there.2, there.3)
    | inr nowhere ↦ inr (not_first differs nowhere)
  ]
]
  where
    not_first : bytes_eq name first.name ≡ false → ((number : ℕ) (rule : Rule) → slice_get rules number ≡ Some rule → name ≡ rule.name → ⊥)
        → (number : ℕ) (rule : Rule) → slice_get (first ∷ rules) number ≡ Some rule → name ≡ rule.name → ⊥
    not_first differs nowhere zero rule read same =
        both_ways (bytes_eq name first.name) differs ((bytes_eq-Decides name first.name).1 (same ∙ ap (λ (r : Rule). r.name) (sym (same_Some first rule read))))
    not_first differs nowhere (suc number) rule read same = nowhere number rule read same
