-- What a metavariable is bound to wherever a rule gives a fact, by the rule and by the fact.
use Rattle.std.proofs.Common.{ℕ, ◌≡◌, true, ◌==◌, ◌&&◌, List, map, Option, subst}
use Rattle.std.specs.Prelude.{IfSome}
use Rattle.std.proofs.lemmas.Bool.{and_from, and_parts}
use Rattle.std.proofs.lemmas.Option.{IfSome_then}
use Rattle.rh_il.specs.declared.program.Node.{Node}
use Rattle.rh_il.specs.declared.program.Proc.{Proc}
use Rattle.rh_rule.specs.declared.rule.Arg.{Arg}
use Rattle.rh_rule.specs.declared.rule.FactUse.{FactUse}
use Rattle.rh_rule.specs.declared.rule.Rule.{Rule}
use Rattle.rh_rule.specs.declared.schema.Schema.{Schema}
use Rattle.rh_domain.specs.declared.fact.FactAt.{FactAt}
use Rattle.rh_domain.specs.Binding.{Binding, arg_under}
use Rattle.rh_ground.specs.Fixed.{Agrees, Fixes}
use Rattle.rh_ground.specs.Instance.{is_instance}
use Rattle.rh_ground.specs.SameFact.{args_eq}
use Rattle.rh_system.specs.Bits.{BitSet}
use Rattle.rh_rows.specs.Support.{gives}

module _ (schemas : List Schema) (procs : List Proc) (set : BitSet) (at : FactAt) (proc : Proc) (rule : Rule) (concluded : FactUse) where
  -- a binding under which the rule gives the fact passes the test of the rule and that of the fact
  both_pass : (binding : Binding) → gives schemas procs set at proc rule concluded binding ≡ true
      → (is_instance proc rule binding at.edge.node && args_eq (map (arg_under binding) concluded.args) at.fact.args) ≡ true
  both_pass binding given =
      let parts = and_parts _ _ given in
      let fact = and_parts _ _ parts.1 in
      let same = and_parts (concluded.schema == at.fact.schema) (args_eq (map (arg_under binding) concluded.args) at.fact.args) fact.0 in
      and_from _ _ parts.0 same.1

  pub agreed_fixes : (meta : ℕ) (node : Node) (args : List Arg) (by_rule by_fact result : Option Arg) → node ≡ at.edge.node → args ≡ at.fact.args → Agrees by_rule by_fact result
      → IfSome by_rule (Fixes (λ binding. is_instance proc rule binding node) meta)
      → IfSome by_fact (Fixes (λ binding. args_eq (map (arg_under binding) concluded.args) args) meta)
      → IfSome result (Fixes (gives schemas procs set at proc rule concluded) meta)
  agreed_fixes meta node args by_rule by_fact result node_is args_are agrees rule_fixes fact_fixes =
      let of_rule = subst (λ (n : Node). IfSome by_rule (Fixes (λ binding. is_instance proc rule binding n) meta)) node_is rule_fixes in
      let of_fact = subst (λ (xs : List Arg). IfSome by_fact (Fixes (λ binding. args_eq (map (arg_under binding) concluded.args) xs) meta)) args_are fact_fixes in
      IfSome_then result
      (agrees (λ binding. is_instance proc rule binding at.edge.node) (λ binding. args_eq (map (arg_under binding) concluded.args) at.fact.args) meta of_rule of_fact)
      (λ arg known binding given. known binding (both_pass binding given))
