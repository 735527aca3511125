-- The sections of the admitted rules, one after another.
use Rattle.std.proofs.Common.{◌≡◌, ℕ, ◌+◌, List, [], ◌∷◌, ◌++◌, append_assoc, length, refl, ap, sym, ◌∙◌, arith}
use Rattle.rh_log.specs.declared.log.Admission.{Admission}
use Rattle.rh_log.specs.declared.log.Admission.TheVariants.{Admitted, Refused}
use Rattle.rh_log.specs.declared.log.Log.{Log}
use Rattle.rh_log_text.specs.declared.logs.PlacedLog.{PlacedLog}
use Rattle.rh_log_text.specs.declared.logs.RuleLogs.{RuleLogs}
use Rattle.rh_rule.specs.declared.rule.Rule.{Rule}
use Rattle.rh_audit.specs.Proofs.{numbered_from, sections_of}

one_first : (rule : Rule) (rules : List Rule) (admission : Admission) (rest : List Admission)
    → sections_of (rule ∷ []) (admission ∷ []) ++ sections_of rules rest ≡ sections_of (rule ∷ rules) (admission ∷ rest)
one_first rule rules (Admitted logs) rest = refl
one_first rule rules (Refused obligation classes) rest = refl

-- one more admission is gone over
pub one_section_more : (whole sections : List RuleLogs) (rule : Rule) (left all_left : List Rule) (admission : Admission) (rest all_rest : List Admission) → all_left ≡ rule ∷ left
    → all_rest ≡ admission ∷ rest → sections ++ sections_of all_left all_rest ≡ whole → (sections ++ sections_of (rule ∷ []) (admission ∷ [])) ++ sections_of left rest ≡ whole
one_section_more whole sections rule left all_left admission rest all_rest left_is rest_is so_far =
    append_assoc sections (sections_of (rule ∷ []) (admission ∷ [])) (sections_of left rest)
    ∙ ap (λ (more : List RuleLogs). sections ++ more)
    (one_first rule left admission rest ∙ ap (sections_of (rule ∷ left)) (sym rest_is) ∙ ap (λ (rules : List Rule). sections_of rules all_rest) (sym left_is))
    ∙ so_far

none_left : (rules : List Rule) → sections_of rules [] ≡ []
none_left [] = refl
none_left (rule ∷ rules) = refl

append_nil : {X : Type 0} (xs : List X) → xs ++ [] ≡ xs
append_nil [] = refl
append_nil (x ∷ xs) = ap (λ rest. x ∷ rest) (append_nil xs)

-- no admission is left
pub all_sections : (whole sections : List RuleLogs) (left : List Rule) (rest : List Admission) → rest ≡ [] → sections ++ sections_of left rest ≡ whole → sections ≡ whole
all_sections whole sections left rest none so_far =
    sym (append_nil sections) ∙ ap (λ (more : List RuleLogs). sections ++ more) (sym (none_left left) ∙ ap (sections_of left) (sym none)) ∙ so_far

-- no rule is left
pub no_rule_left : (whole sections : List RuleLogs) (left : List Rule) (rest : List Admission) → left ≡ [] → sections ++ sections_of left rest ≡ whole → sections ≡ whole
no_rule_left whole sections left rest none so_far =
    sym (append_nil sections) ∙ ap (λ (rules : List Rule). sections ++ sections_of rules rest) (sym none) ∙ so_far

numbered_more : (number : ℕ) (logs : List Log) (log : Log)
    → numbered_from number (logs ++ log ∷ []) ≡ numbered_from number logs ++ record { line = 0; number = number + length logs; log = log } ∷ []
numbered_more number [] log = ap (λ (n : ℕ). record { line = 0; number = n; log = log } ∷ []) (omega arith)
numbered_more number (first ∷ logs) log =
    ap (λ (rest : List PlacedLog). record { line = 0; number = number; log = first } ∷ rest)
    (numbered_more (number + 1) logs log ∙ ap (λ (n : ℕ). numbered_from (number + 1) logs ++ record { line = 0; number = n; log = log } ∷ []) (omega arith))

numbered_long : (number : ℕ) (logs : List Log) → length (numbered_from number logs) ≡ length logs
numbered_long number [] = refl
numbered_long number (log ∷ logs) = omega (arith, numbered_long (number + 1) logs)

-- one more log has the next number
pub numbered_one : (placed : List PlacedLog) (logs : List Log) (number : ℕ) (log : Log) → placed ≡ numbered_from 0 logs → number ≡ length placed
    → placed ++ record { line = 0; number = number; log = log } ∷ [] ≡ numbered_from 0 (logs ++ log ∷ [])
numbered_one placed logs number log so_far is =
    let next : number ≡ 0 + length logs = omega (arith, is, ap length so_far, numbered_long 0 logs) in
    ap (λ (front : List PlacedLog). front ++ record { line = 0; number = number; log = log } ∷ []) so_far
    ∙ ap (λ (n : ℕ). numbered_from 0 logs ++ record { line = 0; number = n; log = log } ∷ []) next
    ∙ sym (numbered_more 0 logs log)
