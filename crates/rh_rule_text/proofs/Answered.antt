-- An answer of which something is told is the only one.
use Rattle.std.proofs.Common.{◌≡◌, ℕ, List, refl, ◌⊎◌, inl, inr}
use Rattle.std.specs.Prelude.{Result, Ok, Err, IfOk, IfErr}
use Rattle.rh_rule.specs.RuleFiles.{Rules}
use Rattle.rh_rule_text.specs.declared.fault.RulesFault.{RulesFault}
use Rattle.rh_rule_text.specs.declared.fault.RulesFault.TheVariants.{Lex, Syntax, Unknown, Rules as WrongRules, NoMemory}
use Rattle.rh_rule_text.specs.Reading.{IsText, FaultsAs}
use Rattle.rh_rule_text.specs.Answer.{IsAnswer, IsRefusal}
use Rattle.rh_rule_text.proofs.OneReading.{one_rule_file, texts_have_no_fault, one_fault}

-- the rule file that was read
pub answers : (text : List ℕ) (result : Result Rules RulesFault) → IfOk result (IsText text) → IfErr result (FaultsAs text) → (rules : Rules) → IsText text rules → IsAnswer rules result
answers text (Ok read) is faults rules told = one_rule_file text read rules is told
answers text (Err fault) is faults rules told = texts_have_no_fault text rules fault told faults

this_or_memory : (text : List ℕ) (told fault : RulesFault) → FaultsAs text told → FaultsAs text fault → (fault ≡ NoMemory → ⊥) → (told ≡ fault) ⊎ (told ≡ NoMemory)
this_or_memory text NoMemory fault first second memory = inr refl
this_or_memory text (Lex at) fault first second memory = inl (one_fault text (Lex at) fault first second (λ e. absurd cc) memory)
this_or_memory text (Syntax at) fault first second memory = inl (one_fault text (Syntax at) fault first second (λ e. absurd cc) memory)
this_or_memory text (Unknown at) fault first second memory = inl (one_fault text (Unknown at) fault first second (λ e. absurd cc) memory)
this_or_memory text (WrongRules at) fault first second memory = inl (one_fault text (WrongRules at) fault first second (λ e. absurd cc) memory)

-- the fault that was told
pub refuses : (text : List ℕ) (result : Result Rules RulesFault) → IfOk result (IsText text) → IfErr result (FaultsAs text) → (fault : RulesFault) → FaultsAs text fault → (fault ≡ NoMemory → ⊥) → IsRefusal fault result
refuses text (Ok read) is faults fault there memory = memory (texts_have_no_fault text read fault is there)
refuses text (Err told) is faults fault there memory = this_or_memory text told fault faults there memory
