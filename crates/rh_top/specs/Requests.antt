-- What the words of the command line ask for.
use Rattle.std.specs.Prelude.{ℕ, ℤ, ◌≡◌, ◌<◌, ◌≤◌, true, List, [], ◌∷◌, ◌++◌, Some, codes}
use Rattle.rh_args.specs.declared.command.Command.{Command}
use Rattle.rh_args.specs.declared.command.Command.TheVariants.{Opt, Check, Prove, Audit, Run, Gen}
use Rattle.rh_args.specs.Forms.{is_accepted}
use Rattle.rh_args.specs.Meaning.{IsGiven}
use Rattle.rh_args.specs.Numbers.{argument, count_of, steps_of, workers_of}

-- a command with its numbers and the names of its files
pub data Request : Type 0 where
  opt : (workers : ℕ) (rules program : List ℕ) → Request
  check : (rules : List ℕ) → Request
  prove : (rules : List ℕ) → Request
  audit : (rules log : List ℕ) → Request
  run : (steps : ℕ) (program : List ℕ) (arg : ℤ) → Request
  gen : (workers n : ℕ) → Request

-- The words are `opt [--workers=N] RULES PROG`, `check RULES`, `prove RULES`, `audit RULES LOG`, `run [--steps=N] PROG ARG`
-- or `gen [--workers=N] N`. There are 4 workers and 1,000,000 steps if no number is given.
abbrev pub Asks : List (List ℕ) → Request → Type 0
Asks words (opt workers rules program) = (given : List (List ℕ)) × IsGiven workers_of 4 given workers × (words ≡ codes "opt" ∷ (given ++ rules ∷ program ∷ []))
Asks words (check rules) = words ≡ codes "check" ∷ rules ∷ []
Asks words (prove rules) = words ≡ codes "prove" ∷ rules ∷ []
Asks words (audit rules log) = words ≡ codes "audit" ∷ rules ∷ log ∷ []
Asks words (run steps program arg) =
    (given : List (List ℕ)) × (text : List ℕ) × IsGiven steps_of 1000000 given steps × (words ≡ codes "run" ∷ (given ++ program ∷ text ∷ [])) × (argument text ≡ Some arg)
Asks words (gen workers n) =
    (given : List (List ℕ)) × (text : List ℕ) × IsGiven workers_of 4 given workers × (words ≡ codes "gen" ∷ (given ++ text ∷ [])) × (count_of text ≡ Some n)

-- the words are accepted, and ask for it
pub record IsRequest (words : List (List ℕ)) (request : Request) : Type 0 where
  pub asks : Asks words request
  pub accepted : is_accepted words ≡ true

-- the request of a command
abbrev pub request_of : Command → Request
request_of (Opt workers rules program) = opt workers rules.now program.now
request_of (Check rules) = check rules.now
request_of (Prove rules) = prove rules.now
request_of (Audit rules log) = audit rules.now log.now
request_of (Run steps program arg) = run steps program.now arg
request_of (Gen workers n) = gen workers n

-- the numbers of a request lie in their ranges
abbrev pub IsInRange : Request → Type 0
IsInRange (opt workers rules program) = (0 < workers) × (workers ≤ 16)
IsInRange (check rules) = Unit {0}
IsInRange (prove rules) = Unit {0}
IsInRange (audit rules log) = Unit {0}
IsInRange (run steps program arg) = steps ≤ 1000000
IsInRange (gen workers n) = (0 < workers) × (workers ≤ 16) × (n ≤ 255)
