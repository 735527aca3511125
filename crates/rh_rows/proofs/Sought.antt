-- What a search for an instance that gives a fact says.
use Rattle.std.proofs.Common.{◌≡◌, Bool, true, false, cond, ◌||◌, List, [], ◌∷◌, Option, Some, None, refl, ap, ◌∙◌}
use Rattle.std.specs.List.{find, list_any}
use Rattle.std.specs.Option.{is_some, option_map_or}
use Rattle.std.specs.Prelude.{slice_get, slice_index_or}
use Rattle.std.proofs.lemmas.Bool.{and_left, and_right, or_from}
use Rattle.std.proofs.lemmas.List.Folds.{list_any_none}
use Rattle.rh_il.specs.declared.program.Proc.{Proc}
use Rattle.rh_rule.specs.declared.rule.Conclusion.{Conclusion}
use Rattle.rh_rule.specs.declared.rule.Conclusion.TheVariants.{Fact, Transform}
use Rattle.rh_rule.specs.declared.rule.Rule.{Rule}
use Rattle.rh_rule.specs.declared.rule.Ruling.{Ruling}
use Rattle.rh_rule.specs.declared.rule.Ruling.TheVariants.{Admitted, Refused}
use Rattle.rh_rule.specs.declared.schema.Param.{Param}
use Rattle.rh_rule.specs.declared.schema.Schema.{Schema}
use Rattle.rh_rule.specs.RuleFiles.{Rules}
use Rattle.rh_domain.specs.declared.domain.Domain.{Domain}
use Rattle.rh_domain.specs.declared.fact.FactAt.{FactAt}
use Rattle.rh_domain.specs.Binding.{Binding, bindings, bindings_in, domain_of}
use Rattle.rh_ground.specs.Instance.{is_instance}
use Rattle.rh_rows.specs.Site.{IsBare}
use Rattle.rh_system.specs.Bits.{BitSet}
use Rattle.rh_rows.specs.Support.{gives, is_given, is_headed, rule_gives, rules_give, some_gives}

-- an item is found where one passes
found_any : {X : Type 0} (test : X → Bool) (xs : List X) → is_some (find test xs) ≡ list_any test xs
found_any test [] = refl
found_any {X} test (x ∷ xs) =
    let rest = found_any test xs in
    elim (test x) as (λ b. is_some (cond b (Some x) (find test xs)) ≡ (b || list_any test xs)) [ true ↦ refl | false ↦ rest ]

pub some_found : (test : Binding → Bool) (domain : Domain) (proc : Proc) (given params : List Param) (found : Option Binding) → found ≡ find test (bindings_in domain given) → domain ≡ domain_of proc → given ≡ params
    → is_some found ≡ list_any test (bindings proc params)
some_found test domain proc given params found is domain_is same =
    ap is_some (is ∙ ap (λ d. find test (bindings_in d given)) domain_is ∙ ap (λ ps. find test (bindings proc ps)) same) ∙ found_any test (bindings proc params)

-- where no rule is about the node, none gives a fact there
module _ (schemas : List Schema) (procs : List Proc) (set : BitSet) (at : FactAt) (proc : Proc) (bare : (rule : Rule) (binding : Binding) → is_instance proc rule binding at.edge.node ≡ false) where
  bare_rule : (rule : Rule) (ruling : Ruling) (conclusion : Conclusion) → rule_gives schemas procs set at proc rule ruling conclusion ≡ false
  bare_rule rule Admitted (Fact concluded slot) =
      and_right (is_headed at concluded slot) (some_gives schemas procs set at proc rule concluded)
      (list_any_none (gives schemas procs set at proc rule concluded) (bindings proc rule.params) (λ k d below. let binding = slice_index_or (bindings proc rule.params) k d in and_left (is_instance proc rule binding at.edge.node) _ (bare rule binding)))
  bare_rule rule Admitted (Transform template) = refl
  bare_rule rule (Refused obligation) conclusion = refl

  bare_rules : (rules : List Rule) (rulings : List Ruling) → rules_give schemas procs set at proc rules rulings ≡ false
  bare_rules [] rulings = refl
  bare_rules (rule ∷ rules) [] = refl
  bare_rules (rule ∷ rules) (ruling ∷ rulings) =
      or_from (rule_gives schemas procs set at proc rule ruling rule.conclusion) (rules_give schemas procs set at proc rules rulings) (bare_rule rule ruling rule.conclusion) (bare_rules rules rulings)

module _ (file : Rules) (rulings : List Ruling) (procs : List Proc) (set : BitSet) (at : FactAt) where
  pub bare_gives : IsBare procs at.proc at.edge.node → is_given file rulings procs set at ≡ false
  bare_gives bare = by (slice_get procs at.proc) refl
    where
      by : (found : Option Proc) → slice_get procs at.proc ≡ found → option_map_or (λ (proc : Proc). rules_give file.schemas procs set at proc file.rules rulings) found false ≡ false
      by None read = refl
      by (Some proc) read = bare_rules file.schemas procs set at proc (λ rule binding. bare proc rule binding read) file.rules rulings
