-- Names that a fact, a rule or a file declares are told by their places, since no two are the same.
use Rattle.std.proofs.Common.{◌≡◌, ℕ, zero, suc, ◌+◌, ◌-◌, ◌<◌, ◌^◌, min, Bool, true, false, cond, not, List, [], ◌∷◌, map, length, take, Option, Some, None, unwrap_or, is_some, sym, ap, ◌∙◌, arith}
use Rattle.std.proofs.lemmas.Bool.{or_parts}
use Rattle.std.proofs.lemmas.Slice.Eq.{bytes_eq-Decides}
use Rattle.std.proofs.lemmas.Iterator.Adapters.{position_from-zero}
use Rattle.std.specs.Prelude.{slice_get}
use Rattle.std.specs.List.{list_any, position, position_from}
use Rattle.std.specs.Option.{option_map_or}
use Rattle.std.specs.Str.{bytes_eq}
use Rattle.rh_il.specs.Checks.{first_some}
use Rattle.rh_il.proofs.Passed.{none_at, none_parts}
use Rattle.rh_names.proofs.IndexSteps.{is_some_position}
use Rattle.rh_rule.specs.declared.schema.Param.{Param}
use Rattle.rh_rule.specs.declared.schema.Schema.{Schema}
use Rattle.rh_rule.specs.declared.rule.Rule.{Rule}
use Rattle.rh_rule.specs.declared.fault.RuleWrong.{RuleWrong}
use Rattle.rh_rule.specs.declared.fault.Item.{Item}
use Rattle.rh_rule.specs.declared.fault.Item.TheVariants.{Fact as FactItem}
use Rattle.rh_rule.specs.declared.fault.RuleWrong.TheVariants.{DuplicateName}
use Rattle.rh_rule.specs.Checks.{unless, schema_fault, rule_fault, file_fault}
use Rattle.rh_rule.proofs.Passed.{passes}
use Rattle.rh_rule_source.specs.declared.word.Spelled.{Spelled}
use Rattle.rh_rule_text.specs.Resolve.{place_of}
use Rattle.rh_rule_text.specs.Unknown.{unknown}
use Rattle.rh_rule_print.proofs.Each.{not_true}

-- ---- what the checks say of names

module _ {X : Type 0} (name : X → List ℕ) where
  -- no item before the one at the place has its name
  abbrev pub is_new_at : List X → ℕ → Bool
  is_new_at xs i = option_map_or (λ x. not (list_any (λ other. bytes_eq (name x) (name other)) (take i xs))) (slice_get xs i) true

  abbrev pub AreDistinct : List X → Type 0
  AreDistinct xs = (i : ℕ) → i < length xs → is_new_at xs i ≡ true

  distinct : (wrong : RuleWrong) (item : ℕ → Item) (xs : List X) → first_some (length xs) (λ i. unless (is_new_at xs i) wrong (item i)) ≡ None → AreDistinct xs
  distinct wrong item xs none i below = passes _ wrong (item i) (none_at (length xs) (λ i. unless (is_new_at xs i) wrong (item i)) i none below)

  same_name : (a b : List ℕ) → a ≡ b → bytes_eq a b ≡ true
  same_name a b same = (bytes_eq-Decides a b).1 same

  place_from : (xs : List X) (i k : ℕ) (x : X) → slice_get xs i ≡ Some x → list_any (λ other. bytes_eq (name x) (name other)) (take i xs) ≡ false → position_from (bytes_eq (name x)) k (map name xs) ≡ Some (k + i)
  place_from [] i k x read new = absurd cc
  place_from (y ∷ ys) zero k x read new =
      let same : name x ≡ name y = sym (ap (λ o. option_map_or name o []) read) in
      ap (λ t. cond t (Some k) (position_from (bytes_eq (name x)) (k + 1) (map name ys))) (same_name (name x) (name y) same) ∙ ap Some (let more : k ≡ k + 0 = omega arith in more)
  place_from (y ∷ ys) (suc i) k x read new =
      let parts = or_parts (bytes_eq (name x) (name y)) (list_any (λ other. bytes_eq (name x) (name other)) (take i ys)) new in
      ap (λ t. cond t (Some k) (position_from (bytes_eq (name x)) (k + 1) (map name ys))) parts.0
      ∙ place_from ys i (k + 1) x read parts.1 ∙ ap Some (let more : k + 1 + i ≡ k + suc i = omega arith in more)

  -- the name of an item stands first at its place
  pub place : (xs : List X) (i : ℕ) (x : X) → AreDistinct xs → slice_get xs i ≡ Some x → i < length xs → position (bytes_eq (name x)) (map name xs) ≡ Some i
  place xs i x all read below =
      let new : is_new_at xs i ≡ true = all i below in
      let test = list_any (λ other. bytes_eq (name x) (name other)) (take i xs) in
      let here : not test ≡ true =
      ap (λ (o : Option X). option_map_or (λ x. not (list_any (λ other. bytes_eq (name x) (name other)) (take i xs))) o true) (sym read) ∙ new in
      position_from-zero (bytes_eq (name x)) (map name xs) ∙ place_from xs i 0 x read (not_true test here) ∙ ap Some (let more : 0 + i ≡ i = omega arith in more)

-- no two parameters of a schema have one name
pub schema_params_distinct : (number : ℕ) (schema : Schema) → schema_fault number schema ≡ None → AreDistinct (λ (p : Param). p.name) schema.params
unfolding schema_fault
schema_params_distinct number schema h =
    let sizes = none_parts _ _ h in
    let names = none_parts _ _ sizes.1 in
    distinct (λ (p : Param). p.name) _ (λ i. _) schema.params names.0

-- no two metavariables of a rule
pub rule_params_distinct : (schemas : List Schema) (number : ℕ) (rule : Rule) → rule_fault schemas number rule ≡ None → AreDistinct (λ (p : Param). p.name) rule.params
unfolding rule_fault
rule_params_distinct schemas number rule h =
    let all = none_parts _ _ h in
    let sizes = none_parts _ _ all.0 in
    let names = none_parts _ _ sizes.1 in
    distinct (λ (p : Param). p.name) _ (λ i. _) rule.params names.0

-- no two schemas of a file
pub schemas_distinct : (schemas : List Schema) (rules : List Rule) → file_fault schemas rules ≡ None → AreDistinct (λ (s : Schema). s.name) schemas
unfolding file_fault
schemas_distinct schemas rules h =
    let a = none_parts _ _ h in
    let b = none_parts _ _ a.1 in
    let c = none_parts _ _ b.1 in
    distinct (λ (s : Schema). s.name) DuplicateName FactItem schemas c.0

-- ---- what the place of a name tells of its uses

-- the name stands first at the place
pub record IsDeclared (names : List (List ℕ)) (number : ℕ) (name : List ℕ) : Type 0 where
  pub first : position (bytes_eq name) names ≡ Some number
  pub small : number < 2 ^ 32

module _ (names : List (List ℕ)) (number : ℕ) (s : Spelled) (is : IsDeclared names number s.name) where
  pub declared_place : place_of names s ≡ number
  declared_place =
      ap (λ o. min (unwrap_or o 0) (2 ^ 32 - 1)) is.first ∙ (let most : min number (2 ^ 32 - 1) ≡ number = omega (arith, is.small) in most)

  pub declared_known : unknown names s ≡ None
  declared_known =
      ap (λ t. cond t None (Some s.at)) (sym (is_some_position (bytes_eq s.name) names) ∙ ap is_some is.first)
