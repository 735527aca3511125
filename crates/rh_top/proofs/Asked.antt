-- Words ask for one request, and its numbers lie in their ranges.
use Rattle.std.proofs.Common.{ℕ, ℤ, ◌≡◌, ◌≤◌, Bool, true, false, List, [], ◌∷◌, ◌++◌, Option, Some, None, codes, refl, sym, ap, subst, ◌∙◌, arith}
use Rattle.std.proofs.lemmas.Bool.{and_parts, leb-true}
use Rattle.std.specs.Prelude.{◌&&◌, nat_le, if◌then◌else◌, slice_index, slice_index_or}
use Rattle.rh_args.specs.declared.command.Command.{Command}
use Rattle.rh_args.specs.declared.command.Command.TheVariants.{Opt, Check, Prove, Audit, Run, Gen}
use Rattle.rh_args.specs.Meaning.{IsGiven, Means}
use Rattle.rh_args.specs.Numbers.{argument, count_of, number_after, small_number, steps_of, within, workers_of}
use Rattle.rh_report.specs.declared.status.Status.{Status}
use Rattle.rh_top.specs.Call.{Reads, Writes}
use Rattle.rh_top.specs.Ends.{Ends}
use Rattle.rh_top.specs.Requests.{Asks, IsInRange, IsRequest, Request, audit, check, gen, opt, prove, request_of, run}

-- words that mean a command ask for its request
pub asks : (words : List (List ℕ)) (command : Command) → Means words command → Asks words (request_of command)
asks words (Opt workers rules program) means = means
asks words (Check rules) means = means
asks words (Prove rules) means = means
asks words (Audit rules log) means = means
asks words (Run steps program arg) means = means
asks words (Gen workers n) means = means

-- ---- ranges

kept : (b : Bool) (m n : ℕ) → (if b then Some m else None) ≡ Some n → (b ≡ true) × (m ≡ n)
kept true m n is = (refl, cc)
kept false m n is = absurd cc

in_range : (low high : ℕ) (number : Option ℕ) (n : ℕ) → within low high number ≡ Some n → (low ≤ n) × (n ≤ high)
in_range low high None n is = absurd cc
in_range low high (Some m) n is =
    let is_kept = kept (nat_le low m && nat_le m high) m n is in
    let parts = and_parts (nat_le low m) (nat_le m high) is_kept.0 in
    let least = leb-true low m parts.0 in
    let most = leb-true m high parts.1 in
    let same = is_kept.1 in
    (omega (arith, least, same), omega (arith, most, same))

workers_range : (given : List (List ℕ)) (workers : ℕ) → IsGiven workers_of 4 given workers → (1 ≤ workers) × (workers ≤ 16)
workers_range [] workers is = (omega (arith, is), omega (arith, is))
workers_range (word ∷ []) workers is = in_range 1 16 (number_after (codes "--workers=") word) workers is
workers_range (word ∷ other ∷ more) workers is = absurd is

steps_range : (given : List (List ℕ)) (steps : ℕ) → IsGiven steps_of 1000000 given steps → steps ≤ 1000000
steps_range [] steps is = omega (arith, is)
steps_range (word ∷ []) steps is = (in_range 0 1000000 (number_after (codes "--steps=") word) steps is).1
steps_range (word ∷ other ∷ more) steps is = absurd is

pub ranges : (words : List (List ℕ)) (request : Request) → Asks words request → IsInRange request
ranges words (opt workers rules program) (given, is, words_are) = workers_range given workers is
ranges words (check rules) is = tt
ranges words (prove rules) is = tt
ranges words (audit rules log) is = tt
ranges words (run steps program arg) (given, text, is, words_are, arg_is) = steps_range given steps is
ranges words (gen workers n) (given, text, is, words_are, n_is) =
    let range = workers_range given workers is in
    (range.0, range.1, (in_range 0 255 (small_number text) n n_is).1)

-- ---- one request

-- the first letter of the first word
abbrev letter_in : List (List ℕ) → ℕ
letter_in words = slice_index (slice_index_or words 0 []) 0

abbrev letter_of : Request → ℕ
letter_of (opt workers rules program) = 111
letter_of (check rules) = 99
letter_of (prove rules) = 112
letter_of (audit rules log) = 97
letter_of (run steps program arg) = 114
letter_of (gen workers n) = 103

letter_is : (words : List (List ℕ)) (request : Request) → Asks words request → letter_in words ≡ letter_of request
letter_is words (opt workers rules program) (given, is, words_are) = ap letter_in words_are
letter_is words (check rules) words_are = ap letter_in words_are
letter_is words (prove rules) words_are = ap letter_in words_are
letter_is words (audit rules log) words_are = ap letter_in words_are
letter_is words (run steps program arg) (given, text, is, words_are, arg_is) = ap letter_in words_are
letter_is words (gen workers n) (given, text, is, words_are, n_is) = ap letter_in words_are

given_twice : (read : List ℕ → Option ℕ) (default : ℕ) (word : List ℕ) (m n : ℕ) → IsGiven read default (word ∷ []) m → IsGiven read default (word ∷ []) n → m ≡ n
given_twice read default word m n is also = cc

-- an option and two words after the first are the same where the words are
options_are : (read : List ℕ → Option ℕ) (default : ℕ) (verb : List ℕ) (given others : List (List ℕ)) (m n : ℕ) (a b c d : List ℕ) → IsGiven read default given m → IsGiven read default others n
    → verb ∷ (given ++ a ∷ b ∷ []) ≡ verb ∷ (others ++ c ∷ d ∷ []) → (m ≡ n) × (a ≡ c) × (b ≡ d)
options_are read default verb [] [] m n a b c d is also same = (cc, cc, cc)
options_are read default verb [] (y ∷ []) m n a b c d is also same = absurd cc
options_are read default verb (x ∷ []) [] m n a b c d is also same = absurd cc
options_are read default verb (x ∷ []) (y ∷ []) m n a b c d is also same =
    let word : x ≡ y = cc in
    (given_twice read default x m n is (subst (λ w. IsGiven read default (w ∷ []) n) (sym word) also), cc, cc)
options_are read default verb given (y ∷ z ∷ others) m n a b c d is also same = absurd also
options_are read default verb (x ∷ z ∷ given) others m n a b c d is also same = absurd is

option_is : (read : List ℕ → Option ℕ) (default : ℕ) (verb : List ℕ) (given others : List (List ℕ)) (m n : ℕ) (a b : List ℕ) → IsGiven read default given m → IsGiven read default others n
    → verb ∷ (given ++ a ∷ []) ≡ verb ∷ (others ++ b ∷ []) → (m ≡ n) × (a ≡ b)
option_is read default verb [] [] m n a b is also same = (cc, cc)
option_is read default verb [] (y ∷ []) m n a b is also same = absurd cc
option_is read default verb (x ∷ []) [] m n a b is also same = absurd cc
option_is read default verb (x ∷ []) (y ∷ []) m n a b is also same =
    let word : x ≡ y = cc in
    (given_twice read default x m n is (subst (λ w. IsGiven read default (w ∷ []) n) (sym word) also), cc)
option_is read default verb given (y ∷ z ∷ others) m n a b is also same = absurd also
option_is read default verb (x ∷ z ∷ given) others m n a b is also same = absurd is

same_opt : (words : List (List ℕ)) (m n : ℕ) (a b c d : List ℕ) → Asks words (opt m a b) → Asks words (opt n c d) → opt m a b ≡ opt n c d
same_opt words m n a b c d (given, is, words_are) (others, also, words_are') =
    let same = options_are workers_of 4 (codes "opt") given others m n a b c d is also (sym words_are ∙ words_are') in
    λ i. opt (same.0 i) (same.1 i) (same.2 i)

same_run : (words : List (List ℕ)) (m n : ℕ) (a b : List ℕ) (x y : ℤ) → Asks words (run m a x) → Asks words (run n b y) → run m a x ≡ run n b y
same_run words m n a b x y (given, text, is, words_are, arg_is) (others, text', also, words_are', arg_is') =
    let same = options_are steps_of 1000000 (codes "run") given others m n a text b text' is also (sym words_are ∙ words_are') in
    let texts = ap argument same.2 in
    let arg : x ≡ y = cc in
    λ i. run (same.0 i) (same.1 i) (arg i)

same_gen : (words : List (List ℕ)) (m n k l : ℕ) → Asks words (gen m k) → Asks words (gen n l) → gen m k ≡ gen n l
same_gen words m n k l (given, text, is, words_are, n_is) (others, text', also, words_are', n_is') =
    let same = option_is workers_of 4 (codes "gen") given others m n text text' is also (sym words_are ∙ words_are') in
    let texts = ap count_of same.1 in
    let count : k ≡ l = cc in
    λ i. gen (same.0 i) (count i)

-- words ask for one request
one : (words : List (List ℕ)) (a b : Request) → letter_of a ≡ letter_of b → Asks words a → Asks words b → a ≡ b
one words (opt m a b) (opt n c d) letters first second = same_opt words m n a b c d first second
one words (opt m a b) _ letters first second = absurd (omega (arith, letters))
one words (check a) (check b) letters first second = let same : a ≡ b = cc in ap check same
one words (check a) _ letters first second = absurd (omega (arith, letters))
one words (prove a) (prove b) letters first second = let same : a ≡ b = cc in ap prove same
one words (prove a) _ letters first second = absurd (omega (arith, letters))
one words (audit a b) (audit c d) letters first second =
    let same : a ≡ c = cc in
    let also : b ≡ d = cc in
    λ i. audit (same i) (also i)
one words (audit a b) _ letters first second = absurd (omega (arith, letters))
one words (run m a x) (run n b y) letters first second = same_run words m n a b x y first second
one words (run m a x) _ letters first second = absurd (omega (arith, letters))
one words (gen m k) (gen n l) letters first second = same_gen words m n k l first second
one words (gen m k) _ letters first second = absurd (omega (arith, letters))

pub one_request : (words : List (List ℕ)) (a b : Request) → Asks words a → Asks words b → a ≡ b
one_request words a b first second = one words a b (sym (letter_is words a first) ∙ letter_is words b second) first second

-- what is said of the request that was found is said of every request that the words ask for
pub ends_by_words : (words : List (List ℕ)) (reads : Reads) (writes : Writes) (found request : Request) (status : Status) → Asks words found → Ends reads writes found status → IsRequest words request
    → Ends reads writes request status
ends_by_words words reads writes found request status asked ends is = subst (λ r. Ends reads writes r status) (one_request words found request asked is.asks) ends
