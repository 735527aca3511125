-- The accepted lists of words.
use Rattle.std.specs.Prelude.{◌≡◌, ℕ, ◌≤◌, Bool, true, List, [], ◌∷◌, ◌++◌, length, max, take, map, is_some, codes, String}
use Rattle.std.specs.Str.{bytes_eq}
use Rattle.std.specs.Cmp.Lexicographic.{pointwise}
use Rattle.std.specs.List.{list_any, common_prefix_len}
use Rattle.rh_args.specs.declared.form.WordForm.{WordForm}
use Rattle.rh_args.specs.declared.form.WordForm.TheVariants.{Opt, Check, Prove, Audit, Run, Gen, Workers, Steps, File, Argument, Count}
use Rattle.rh_args.specs.declared.shape.Shape.{Shape}
use Rattle.rh_args.specs.declared.shape.Shape.TheVariants as shapes
use Rattle.std.specs.String.{string_bytes}
use Rattle.rh_args.specs.Numbers.{workers_of, steps_of, count_of, is_file_name, argument}

-- whether a word has a form
abbrev pub fits : WordForm → List ℕ → Bool
fits Opt word = bytes_eq word (codes "opt")
fits Check word = bytes_eq word (codes "check")
fits Prove word = bytes_eq word (codes "prove")
fits Audit word = bytes_eq word (codes "audit")
fits Run word = bytes_eq word (codes "run")
fits Gen word = bytes_eq word (codes "gen")
fits Workers word = is_some (workers_of word)
fits Steps word = is_some (steps_of word)
fits File word = is_file_name word
fits Argument word = is_some (argument word)
fits Count word = is_some (count_of word)

-- the forms of the words of an accepted list
abbrev pub forms_of : Shape → List WordForm
forms_of shapes.Opt = Opt ∷ File ∷ File ∷ []
forms_of shapes.OptWorkers = Opt ∷ Workers ∷ File ∷ File ∷ []
forms_of shapes.Check = Check ∷ File ∷ []
forms_of shapes.Prove = Prove ∷ File ∷ []
forms_of shapes.Audit = Audit ∷ File ∷ File ∷ []
forms_of shapes.Run = Run ∷ File ∷ Argument ∷ []
forms_of shapes.RunSteps = Run ∷ Steps ∷ File ∷ Argument ∷ []
forms_of shapes.Gen = Gen ∷ Count ∷ []
forms_of shapes.GenWorkers = Gen ∷ Workers ∷ Count ∷ []

-- every shape
abbrev pub all_shapes : List Shape
all_shapes =
    shapes.Opt ∷ shapes.OptWorkers ∷ shapes.Check ∷ shapes.Prove ∷ shapes.Audit ∷ shapes.Run ∷ shapes.RunSteps
    ∷ shapes.Gen ∷ shapes.GenWorkers ∷ []

-- the words are a list of one of the shapes
abbrev pub is_shaped : List Shape → List (List ℕ) → Bool
is_shaped shapes words = list_any (λ shape. pointwise fits (forms_of shape) words) shapes

-- the words are a list that is accepted
unfoldable pub is_accepted : List (List ℕ) → Bool
is_accepted words = is_shaped all_shapes words

-- the bytes of the words
abbrev pub texts : {A : Type 0} → List (String A) → List (List ℕ)
texts words = map string_bytes words

-- an accepted list begins with these words
abbrev pub BeginsAccepted : List (List ℕ) → Type 0
BeginsAccepted words = (more : List (List ℕ)) × (is_accepted (words ++ more) ≡ true)

-- the place is the length of the longest front of the words with which an accepted list begins
pub record IsUsagePlace (words : List (List ℕ)) (place : ℕ) : Type 0 where
  pub within : place ≤ length words
  pub begins : BeginsAccepted (take place words)
  pub longest : (n : ℕ) → n ≤ length words → BeginsAccepted (take n words) → n ≤ place

-- the farthest that the words go with one of the shapes
abbrev pub farthest : List Shape → List (List ℕ) → ℕ
farthest [] words = 0
farthest (shape ∷ others) words = max (common_prefix_len fits (forms_of shape) words) (farthest others words)
