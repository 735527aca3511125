-- The command that words mean.
use Rattle.std.specs.Prelude.{◌≡◌, ℕ, List, [], ◌∷◌, ◌++◌, Option, Some, codes}
use Rattle.rh_args.specs.declared.command.Command.{Command}
use Rattle.rh_args.specs.declared.command.Command.TheVariants.{Opt, Check, Prove, Audit, Run, Gen}
use Rattle.rh_args.specs.Numbers.{workers_of, steps_of, count_of, argument}

-- an option's number: that of the one word that gives it, or the default where none does
abbrev pub IsGiven : (List ℕ → Option ℕ) → ℕ → List (List ℕ) → ℕ → Type 0
IsGiven read default [] n = n ≡ default
IsGiven read default (word ∷ []) n = read word ≡ Some n
IsGiven read default (word ∷ other ∷ more) n = ⊥

-- `opt [--workers=N] RULES PROG`, `check RULES`, `prove RULES`, `audit RULES LOG`, `run [--steps=N] PROG ARG` and `gen [--workers=N] N`
abbrev pub Means : List (List ℕ) → Command → Type 0
Means words (Opt workers rules program) =
    (given : List (List ℕ)) × IsGiven workers_of 4 given workers × (words ≡ codes "opt" ∷ (given ++ rules.now ∷ program.now ∷ []))
Means words (Check rules) = words ≡ codes "check" ∷ rules.now ∷ []
Means words (Prove rules) = words ≡ codes "prove" ∷ rules.now ∷ []
Means words (Audit rules log) = words ≡ codes "audit" ∷ rules.now ∷ log.now ∷ []
Means words (Run steps program arg) =
    (given : List (List ℕ)) × (text : List ℕ) × IsGiven steps_of 1000000 given steps × (words ≡ codes "run" ∷ (given ++ program.now ∷ text ∷ [])) × (argument text ≡ Some arg)
Means words (Gen workers n) =
    (given : List (List ℕ)) × (text : List ℕ) × IsGiven workers_of 4 given workers × (words ≡ codes "gen" ∷ (given ++ text ∷ [])) × (count_of text ≡ Some n)
