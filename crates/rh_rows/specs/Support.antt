-- Which facts the rules give, where the bits of facts are in a set.
use Rattle.std.specs.Prelude.{ℕ, ◌≡◌, ◌==◌, Bool, false, ◌&&◌, ◌||◌, List, [], ◌∷◌, slice_get}
use Rattle.std.specs.List.{list_all, list_any}
use Rattle.std.specs.Option.{option_map_or}
use Rattle.rh_il.specs.declared.program.Proc.{Proc}
use Rattle.rh_il.specs.declared.program.Slot.{Slot}
use Rattle.rh_rule.specs.declared.rule.Conclusion.{Conclusion}
use Rattle.rh_rule.specs.declared.rule.Conclusion.TheVariants.{Fact, Transform}
use Rattle.rh_rule.specs.declared.rule.FactUse.{FactUse}
use Rattle.rh_rule.specs.declared.rule.Rule.{Rule}
use Rattle.rh_rule.specs.declared.rule.Ruling.{Ruling}
use Rattle.rh_rule.specs.declared.rule.Ruling.TheVariants.{Admitted, Refused}
use Rattle.rh_rule.specs.declared.schema.Schema.{Schema}
use Rattle.rh_rule.specs.RuleFiles.{IsRuleFile, Rules}
use Rattle.rh_domain.specs.declared.fact.FactAt.{FactAt}
use Rattle.rh_domain.specs.Binding.{Binding, bindings}
use Rattle.rh_layout.specs.Bits.{IsBitOf}
use Rattle.rh_ground.specs.Instance.{is_instance}
use Rattle.rh_ground.specs.Rows.{premises_at}
use Rattle.rh_ground.specs.SameFact.{is_fact_under}
use Rattle.rh_system.specs.Bits.{BitSet}
use Rattle.rh_system.specs.Rows.{supports}
use Rattle.rh_rows.specs.BitRows.{rows_of}
use Rattle.rh_rows.specs.Known.{known_by, slot_eq}

-- the premises of a rule under a binding have their bits in the set, on each edge that enters the node that the fact's
-- edge leaves
abbrev pub rests_on : List Schema → List Proc → BitSet → FactAt → Proc → Rule → Binding → Bool
rests_on schemas procs set at proc rule binding = list_all (known_by schemas procs set) (premises_at at.proc proc rule binding at.edge.node)

-- a rule under a binding is about this node, what it concludes is the fact, and the bits of its premises are in the set
abbrev pub gives : List Schema → List Proc → BitSet → FactAt → Proc → Rule → FactUse → Binding → Bool
gives schemas procs set at proc rule concluded binding =
    is_instance proc rule binding at.edge.node && (is_fact_under binding concluded at.fact.schema at.fact.args && rests_on schemas procs set at proc rule binding)

-- the rule's conclusion is of the fact's schema, on the fact's edge
abbrev pub is_headed : FactAt → FactUse → Slot → Bool
is_headed at concluded slot = concluded.schema == at.fact.schema && slot_eq slot at.edge.slot

-- some binding gives the fact
abbrev pub some_gives : List Schema → List Proc → BitSet → FactAt → Proc → Rule → FactUse → Bool
some_gives schemas procs set at proc rule concluded = list_any (gives schemas procs set at proc rule concluded) (bindings proc rule.params)

-- the rule is admitted, concludes a fact, and gives this one
abbrev pub rule_gives : List Schema → List Proc → BitSet → FactAt → Proc → Rule → Ruling → Conclusion → Bool
rule_gives schemas procs set at proc rule Admitted (Fact concluded slot) = is_headed at concluded slot && some_gives schemas procs set at proc rule concluded
rule_gives schemas procs set at proc rule Admitted (Transform template) = false
rule_gives schemas procs set at proc rule (Refused obligation) conclusion = false

-- some rule gives the fact
abbrev pub rules_give : List Schema → List Proc → BitSet → FactAt → Proc → List Rule → List Ruling → Bool
rules_give schemas procs set at proc [] rulings = false
rules_give schemas procs set at proc (rule ∷ rules) [] = false
rules_give schemas procs set at proc (rule ∷ rules) (ruling ∷ rulings) =
    rule_gives schemas procs set at proc rule ruling rule.conclusion || rules_give schemas procs set at proc rules rulings

-- the fact is on an edge of a procedure of the program, and some rule gives it
abbrev pub is_given : Rules → List Ruling → List Proc → BitSet → FactAt → Bool
is_given file rulings procs set at = option_map_or (λ proc. rules_give file.schemas procs set at proc file.rules rulings) (slice_get procs at.proc) false

-- by any set of bits, the rows support the bit of a fact exactly if some rule gives the fact
abbrev pub SupportIsByRules : Type 0
SupportIsByRules = (file : Rules) (rulings : List Ruling) (procs : List Proc) (set : BitSet) (bit : ℕ) (at : FactAt) → IsRuleFile file → IsBitOf file.schemas procs bit at
    → supports (rows_of file rulings procs) set bit ≡ is_given file rulings procs set at

-- and never a bit that stands for no fact
abbrev pub NothingIsSupported : Type 0
NothingIsSupported = (file : Rules) (rulings : List Ruling) (procs : List Proc) (set : BitSet) (bit : ℕ) → IsRuleFile file → ((at : FactAt) → ¬ IsBitOf file.schemas procs bit at)
    → supports (rows_of file rulings procs) set bit ≡ false
