-- The walk over a list of terms comes to its end within its turns: each term at first leads to at most
-- three others, those to which these lead among them.
use Rattle.std.proofs.Common.{ℕ, zero, suc, ◌≡◌, ◌<◌, ◌≤◌, ◌+◌, ◌*◌, Bool, true, false, ◌==◌, if◌then◌else◌, List, [], ◌∷◌, ◌++◌, length, drop, Option, Some, None, refl, ap, sym, subst, ◌∙◌, arith, inl, inr, append-nil, append_assoc, length-append, length-drop, lit<, add-one}
use Rattle.std.specs.Prelude.{fold, slice_get, int_lt, ℤ}
use Rattle.std.specs.List.{AllByRecursion}
use Rattle.std.specs.Option.{option_map_or}
use Rattle.std.proofs.lemmas.Bool.{cases_order}
use Rattle.std.proofs.lemmas.Int.{SFits-int_wrap}
use Rattle.std.proofs.lemmas.List.{drop-append-le}
use Rattle.std.proofs.lemmas.Option.{none-some, same_Some, slice_get_within}
use Rattle.std.specs.Ordering.{int_eq}
use mir.Syntax.{w64}
use Rattle.rh_il.specs.Op.{number_of, truth}
use Rattle.rh_il.specs.Value.{IsNumber}
use Rattle.rh_il.specs.declared.value.Op.{Op as Operator}
use Rattle.rh_il.specs.declared.value.Op.TheVariants.{Add, Sub, Mul, Less, Equal}
use Rattle.rh_term.specs.declared.term.Term.{Term}
use Rattle.rh_term.specs.declared.term.Term.TheVariants.{Num, Cst, Addr, Any, Fresh, Answer, Sel, Upd, Op as Computed, Kind, Una}
use Rattle.rh_term.specs.Term.{is_store_term, is_value_term, HasNumber, HasParts}
use Rattle.rh_meaning.specs.Sorts.{IsIn}
use Rattle.rh_meaning.specs.Tree.{Leaf, place_of, with_term}
use Rattle.rh_meaning.proofs.Places.{with_term_has}
use Rattle.rh_meaning.proofs.Sorted.{parts_here}
use Rattle.rh_meaning.proofs.Trees.{stays_in}
use Rattle.rh_oblig.specs.TermList.{AreFit, closed, folded, read_below, terms_from, unheld_below, walked, IsClosed}
use Rattle.rh_oblig.proofs.Kept.{get_same, is_update, is_update_at, update_same, fit_longer, kept_more, IsFit, IsFlat, IsKept}
use Rattle.rh_oblig.proofs.Walks.{from_fits, walked_none, walked_some}

-- ---- what a term costs: its own turn, and those of the terms to which it may lead

abbrev pub cost : List Term → Term → ℕ
cost terms (Num number) = 2
cost terms (Cst meta) = 2
cost terms (Addr meta) = 2
cost terms Any = 2
cost terms Fresh = 2
cost terms Answer = 2
cost terms (Sel store address) = if is_update_at terms store then 4 else 2
cost terms (Computed op left right) = 4
cost terms (Upd store address value) = 3
cost terms (Una store value) = if is_update_at terms store then 2 else 1
cost terms _ = 1

abbrev pub costs : List Term → List Term → ℕ
costs terms [] = 0
costs terms (term ∷ others) = cost terms term + costs terms others

-- the turns that are left for a walk from a place on
abbrev pub turns_left : List Term → ℕ → ℕ
turns_left terms place = costs terms (drop place terms)

if_most : (test : Bool) (a b n : ℕ) → a ≤ n → b ≤ n → (if test then a else b) ≤ n
if_most true a b n most other = most
if_most false a b n most other = other

if_least : (test : Bool) (a b n : ℕ) → n ≤ a → n ≤ b → n ≤ (if test then a else b)
if_least true a b n least other = least
if_least false a b n least other = other

cost_most : (terms : List Term) (term : Term) → cost terms term ≤ 4
cost_most terms (Sel store address) = if_most (is_update_at terms store) 4 2 4 (omega arith) (omega arith)
cost_most terms (Una store value) = if_most (is_update_at terms store) 2 1 4 (omega arith) (omega arith)
cost_most terms _ = omega arith

cost_least : (terms : List Term) (term : Term) → 1 ≤ cost terms term
cost_least terms (Sel store address) = if_least (is_update_at terms store) 4 2 1 (omega arith) (omega arith)
cost_least terms (Una store value) = if_least (is_update_at terms store) 2 1 1 (omega arith) (omega arith)
cost_least terms _ = omega arith

costs_most : (terms others : List Term) → costs terms others ≤ 4 * length others
costs_most terms [] = omega arith
costs_most terms (term ∷ others) = omega (arith, cost_most terms term, costs_most terms others)

costs_least : (terms others : List Term) → length others ≤ costs terms others
costs_least terms [] = omega arith
costs_least terms (term ∷ others) = omega (arith, cost_least terms term, costs_least terms others)

costs-append : (terms a b : List Term) → costs terms (a ++ b) ≡ costs terms a + costs terms b
costs-append terms [] b = omega arith
costs-append terms (term ∷ a) b = omega (arith, costs-append terms a b)

-- a term costs the same in a longer list
cost_same : (terms more : List Term) (term : Term) → HasParts terms term → cost (terms ++ more) term ≡ cost terms term
cost_same terms more (Sel store address) parts = ap (λ (test : Bool). if test then 4 else 2) (update_same is_store_term terms more store parts.0)
cost_same terms more (Una store value) parts = ap (λ (test : Bool). if test then 2 else 1) (update_same is_store_term terms more store parts.0)
cost_same terms more _ parts = refl

costs_same : (terms more others : List Term) → AreFit terms others → costs (terms ++ more) others ≡ costs terms others
costs_same terms more [] fit = refl
costs_same terms more (term ∷ others) fit = omega (arith, cost_same terms more term fit.0, costs_same terms more others fit.1)

from_each : (P : Term → Type 0) (terms : List Term) → ((place : ℕ) (term : Term) → slice_get terms place ≡ Some term → P term) → AllByRecursion P terms
from_each P [] each = tt
from_each P (term ∷ terms) each = (each 0 term refl, from_each P terms (λ place other stands. each (suc place) other stands))

all_dropped : (P : Term → Type 0) (n : ℕ) (terms : List Term) → AllByRecursion P terms → AllByRecursion P (drop n terms)
all_dropped P zero terms all = all
all_dropped P (suc n) [] all = tt
all_dropped P (suc n) (term ∷ terms) all = all_dropped P n terms all.1

-- ---- one term more

one_cost : (terms : List Term) (term : Term) (place : ℕ) → IsKept terms → HasParts terms term → place ≤ length terms
    → turns_left (terms ++ term ∷ []) place ≡ turns_left terms place + cost terms term
one_cost terms term place kept parts within =
    let fit : AreFit terms (drop place terms) = all_dropped (HasParts terms) place terms (from_each (HasParts terms) terms (λ i listed stands. parts_here terms i listed kept.list stands)) in
    ap (costs (terms ++ term ∷ [])) (drop-append-le place terms (term ∷ []) within)
    ∙ costs-append (terms ++ term ∷ []) (drop place terms) (term ∷ [])
    ∙ omega (arith, costs_same terms (term ∷ []) (drop place terms) fit, cost_same terms (term ∷ []) term parts)

more_cases : (test : Bool) (terms : List Term) (term : Term) (place : ℕ) → IsKept terms → HasParts terms term → place ≤ length terms
    → turns_left (if test then terms ++ term ∷ [] else terms) place ≤ turns_left terms place + cost terms term
more_cases true terms term place kept parts within = omega (arith, one_cost terms term place kept parts within)
more_cases false terms term place kept parts within = omega arith

-- ---- the terms to which a term leads

-- some terms are put into a list
record IsGrown (old new others : List Term) (place : ℕ) : Type 0 where
  kept : IsKept new
  more : List Term
  is : new ≡ old ++ more
  few : turns_left new place ≤ turns_left old place + costs old others
  listed : AllByRecursion (λ other. IsIn new (Leaf other)) others

all_fit_longer : (terms more others : List Term) → AllByRecursion (IsFit terms) others → AllByRecursion (IsFit (terms ++ more)) others
all_fit_longer terms more [] fit = tt
all_fit_longer terms more (other ∷ others) fit = (fit_longer terms more other fit.0, all_fit_longer terms more others fit.1)

all_parts : (terms others : List Term) → AllByRecursion (IsFit terms) others → AreFit terms others
all_parts terms [] fit = tt
all_parts terms (other ∷ others) fit = (fit.0.parts, all_parts terms others fit.1)

grows : (terms others : List Term) (place : ℕ) → IsKept terms → AllByRecursion (IsFit terms) others → place ≤ length terms → IsGrown terms (fold with_term terms others) others place
grows terms [] place kept fit within = record { kept = kept; more = []; is = sym (append-nil terms); few = omega arith; listed = tt }
grows terms (other ∷ others) place kept fit within =
    let mid : List Term = with_term terms other in
    let has = with_term_has terms other in
    let added : mid ≡ terms ++ has.0.more = has.0.is in
    let longer : length terms ≤ length mid = omega (arith, ap length added, length-append terms has.0.more) in
    let rest_fit : AllByRecursion (IsFit mid) others = subst (λ (list : List Term). AllByRecursion (IsFit list) others) (sym added) (all_fit_longer terms has.0.more others fit.1) in
    let rest : IsGrown mid (fold with_term mid others) others place = grows mid others place (kept_more terms other kept fit.0) rest_fit (omega (arith, longer, within)) in
    let same : costs mid others ≡ costs terms others = ap (λ (list : List Term). costs list others) added ∙ costs_same terms has.0.more others (all_parts terms others fit.1) in
    let step : turns_left mid place ≤ turns_left terms place + cost terms other = more_cases (place_of terms other == length terms) terms other place kept fit.0.parts within in
    record {
      kept = rest.kept;
      more = has.0.more ++ rest.more;
      is = rest.is ∙ ap (λ (list : List Term). list ++ rest.more) added ∙ append_assoc terms has.0.more rest.more;
      few = omega (arith, rest.few, same, step);
      listed = (stays_in mid (fold with_term mid others) (Leaf other) (record { more = rest.more; is = rest.is }) has.1, rest.listed);
    }

-- a term that is no update, with its number in range
abbrev IsPlain : Term → Type 0
IsPlain term = HasNumber term × (is_update term ≡ false)

plain_flat : (terms : List Term) (term : Term) → is_update term ≡ false → IsFlat terms term
plain_flat terms (Upd store address value) plain = cc
plain_flat terms _ plain = tt

all_plain : (terms others : List Term) → AreFit terms others → AllByRecursion IsPlain others → AllByRecursion (IsFit terms) others
all_plain terms [] fit plain = tt
all_plain terms (other ∷ others) fit plain =
    (record { parts = fit.0; number = plain.0.0; flat = plain_flat terms other plain.0.1 }, all_plain terms others fit.1 plain.1)

truth_fits : (is_so : Bool) → IsNumber (truth is_so)
truth_fits true = record { sfits = lit< tt }
truth_fits false = record { sfits = lit< tt }

number_fits : (op : Operator) (a b : ℤ) → IsNumber (number_of op a b)
number_fits Add a b = SFits-int_wrap w64 _
number_fits Sub a b = SFits-int_wrap w64 _
number_fits Mul a b = SFits-int_wrap w64 _
number_fits Less a b = truth_fits (int_lt a b)
number_fits Equal a b = truth_fits (int_eq a b)

folded_plain : (op : Operator) (left right : Option Term) → AllByRecursion IsPlain (folded op left right)
folded_plain op (Some (Num a)) (Some (Num b)) = ((number_fits op a b, refl), tt)
folded_plain op left right = tt

read_plain : (below : Option Term) (address : ℕ) → AllByRecursion IsPlain (read_below below address)
read_plain (Some (Upd store at value)) address = ((tt, refl), tt)
read_plain below address = tt

unheld_plain : (below : Option Term) (value : ℕ) → AllByRecursion IsPlain (unheld_below below value)
unheld_plain (Some (Upd store at value)) held = ((tt, refl), tt)
unheld_plain below held = tt

from_plain : (terms : List Term) (place : ℕ) (term : Term) → AllByRecursion IsPlain (terms_from terms place term)
from_plain terms place (Num number) = ((tt, refl), tt)
from_plain terms place (Cst meta) = ((tt, refl), tt)
from_plain terms place (Addr meta) = ((tt, refl), tt)
from_plain terms place Any = ((tt, refl), tt)
from_plain terms place Fresh = ((tt, refl), tt)
from_plain terms place Answer = ((tt, refl), tt)
from_plain terms place (Sel store address) = ((tt, refl), read_plain (slice_get terms store) address)
from_plain terms place (Computed op left right) = ((tt, refl), folded_plain op (slice_get terms left) (slice_get terms right))
from_plain terms place (Upd store address value) = ((tt, refl), tt)
from_plain terms place (Una store value) = unheld_plain (slice_get terms store) value
from_plain terms place _ = tt

-- ---- what they cost

folded_cost : (terms : List Term) (op : Operator) (left right : Option Term) → costs terms (folded op left right) ≤ 2
folded_cost terms op (Some (Num a)) (Some (Num b)) = omega arith
folded_cost terms op left right = omega arith

flat_cost : (test : Bool) (a b : ℕ) → test ≡ false → (if test then a else b) ≡ b
flat_cost true a b flat = cc
flat_cost false a b flat = refl

read_cost : (terms : List Term) (store address : ℕ) (below : Option Term) → IsKept terms → slice_get terms store ≡ below
    → 2 + costs terms (read_below below address) ≤ (if option_map_or is_update below false then 4 else 2)
read_cost terms store address (Some (Upd under at value)) kept stands = omega (arith, flat_cost (is_update_at terms under) 4 2 (kept.flat store (Upd under at value) stands))
read_cost terms store address below kept stands = if_least (option_map_or is_update below false) 4 2 2 (omega arith) (omega arith)

unheld_cost : (terms : List Term) (store held : ℕ) (below : Option Term) → IsKept terms → slice_get terms store ≡ below
    → 1 + costs terms (unheld_below below held) ≤ (if option_map_or is_update below false then 2 else 1)
unheld_cost terms store held (Some (Upd under at value)) kept stands = omega (arith, flat_cost (is_update_at terms under) 2 1 (kept.flat store (Upd under at value) stands))
unheld_cost terms store held below kept stands = if_least (option_map_or is_update below false) 2 1 1 (omega arith) (omega arith)

from_cost : (terms : List Term) (place : ℕ) (term : Term) → IsKept terms → slice_get terms place ≡ Some term → 1 + costs terms (terms_from terms place term) ≤ cost terms term
from_cost terms place (Sel store address) kept stands = omega (arith, read_cost terms store address (slice_get terms store) kept refl)
from_cost terms place (Computed op left right) kept stands = omega (arith, folded_cost terms op (slice_get terms left) (slice_get terms right))
from_cost terms place (Upd store address value) kept stands = omega (arith, flat_cost (is_update_at terms store) 4 2 (kept.flat place (Upd store address value) stands))
from_cost terms place (Una store value) kept stands = unheld_cost terms store value (slice_get terms store) kept refl
from_cost terms place _ kept stands = omega arith

-- ---- a term leads to the same terms in a longer list

from_same : (terms more : List Term) (place : ℕ) (term : Term) → HasParts terms term → terms_from (terms ++ more) place term ≡ terms_from terms place term
from_same terms more place (Sel store address) parts = ap (λ (below : Option Term). Kind place ∷ read_below below address) (get_same is_store_term terms more store parts.0)
from_same terms more place (Computed op left right) parts =
    ap (λ (one : Option Term). Kind place ∷ folded op one (slice_get (terms ++ more) right)) (get_same is_value_term terms more left parts.0)
    ∙ ap (λ (other : Option Term). Kind place ∷ folded op (slice_get terms left) other) (get_same is_value_term terms more right parts.1)
from_same terms more place (Una store value) parts = ap (λ (below : Option Term). unheld_below below value) (get_same is_store_term terms more store parts.0)
from_same terms more place _ parts = refl

-- ---- the walk

-- the terms before a place lead to terms of the list alone
abbrev AreClosedBefore : List Term → ℕ → Type 0
AreClosedBefore terms bound = (place : ℕ) (term : Term) → place < bound → slice_get terms place ≡ Some term → AllByRecursion (λ other. IsIn terms (Leaf other)) (terms_from terms place term)

-- a walk that came to its end
pub record IsWalked (terms : List Term) (most : ℕ) : Type 0 where
  pub kept : IsKept terms
  pub closes : IsClosed terms
  pub few : length terms ≤ most

ended : (terms : List Term) (place most : ℕ) → IsKept terms → AreClosedBefore terms place → length terms ≤ place → place ≤ most → IsWalked terms most
ended terms place most kept closed past bound = record {
  kept = kept;
  closes = λ i term stands. closed i term (omega (arith, slice_get_within terms i term stands, past)) stands;
  few = omega (arith, past, bound);
}

all_listed : (old more others : List Term) → AllByRecursion (λ other. IsIn old (Leaf other)) others → AllByRecursion (λ other. IsIn (old ++ more) (Leaf other)) others
all_listed old more [] all = tt
all_listed old more (other ∷ others) all = (stays_in old (old ++ more) (Leaf other) (record { more = more; is = refl }) all.0, all_listed old more others all.1)

get_before : (terms more : List Term) (place : ℕ) → place < length terms → slice_get (terms ++ more) place ≡ slice_get terms place
get_before [] more place within = absurd (omega (arith, within))
get_before (term ∷ terms) more zero within = refl
get_before (term ∷ terms) more (suc place) within = get_before terms more place (omega (arith, within))

module _ (terms more : List Term) (bound : ℕ) (term : Term) (kept : IsKept terms) (stands : slice_get terms bound ≡ Some term) (before : AreClosedBefore terms bound)
    (listed : AllByRecursion (λ other. IsIn (terms ++ more) (Leaf other)) (terms_from terms bound term)) where
  stays_closed : (place : ℕ) (other : Term) → place < bound → slice_get terms place ≡ Some other → AllByRecursion (λ t. IsIn (terms ++ more) (Leaf t)) (terms_from (terms ++ more) place other)
  stays_closed place other below here =
      subst (AllByRecursion (λ t. IsIn (terms ++ more) (Leaf t))) (sym (from_same terms more place other (parts_here terms place other kept.list here)))
      (all_listed terms more (terms_from terms place other) (before place other below here))

  closed_here : (place : ℕ) (other : Term) → place ≡ bound → slice_get terms place ≡ Some other → AllByRecursion (λ t. IsIn (terms ++ more) (Leaf t)) (terms_from (terms ++ more) place other)
  closed_here place other at here =
      let same : other ≡ term = same_Some other term (sym here ∙ ap (slice_get terms) at ∙ stands) in
      subst (AllByRecursion (λ t. IsIn (terms ++ more) (Leaf t)))
      (sym (from_same terms more place other (parts_here terms place other kept.list here) ∙ ap (λ (n : ℕ). terms_from terms n other) at ∙ ap (terms_from terms bound) same)) listed

  -- one place more
  closed_more : AreClosedBefore (terms ++ more) (bound + 1)
  closed_more place other below here =
      let within : bound < length terms = slice_get_within terms bound term stands in
      let old : slice_get terms place ≡ Some other = sym (get_before terms more place (omega (arith, within, below))) ∙ here in
      elim (cases_order place bound) [
        | inl same ↦ closed_here place other same old
        | inr which ↦ elim which [ inl less ↦ stays_closed place other less old | inr above ↦ absurd (omega (arith, above, below)) ]
      ]

-- the turns from a place on are those for its term, and those from the next on
left_cut : (terms : List Term) (place : ℕ) (term : Term) → slice_get terms place ≡ Some term → turns_left terms place ≡ cost terms term + turns_left terms (place + 1)
left_cut terms place term stands =
    ap (costs terms) (cut terms place stands) ∙ ap (λ (n : ℕ). cost terms term + costs terms (drop n terms)) (sym (add-one place))
  where
    cut : (others : List Term) (n : ℕ) → slice_get others n ≡ Some term → drop n others ≡ term ∷ drop (suc n) others
    cut [] n here = absurd (none-some term here)
    cut (first ∷ others) zero here = ap (λ (t : Term). t ∷ others) (same_Some first term here)
    cut (first ∷ others) (suc n) here = cut others n here

slice_get_none : (terms : List Term) (place : ℕ) → slice_get terms place ≡ None → length terms ≤ place
slice_get_none [] place none = omega arith
slice_get_none (term ∷ terms) zero none = cc
slice_get_none (term ∷ terms) (suc place) none = omega (arith, slice_get_none terms place none)

module _ (turns : ℕ) (on : (terms : List Term) (place most : ℕ) → IsKept terms → AreClosedBefore terms place → place ≤ length terms → turns_left terms place ≤ turns → place + turns_left terms place ≤ most
    → IsWalked (walked turns terms place) most) where
  walk_on : (terms : List Term) (place most : ℕ) (at : Option Term) → slice_get terms place ≡ at → IsKept terms → AreClosedBefore terms place → place ≤ length terms
      → turns_left terms place ≤ suc turns → place + turns_left terms place ≤ most → IsWalked (walked (suc turns) terms place) most
  walk_on terms place most None stands kept before within few bound =
      subst (λ (list : List Term). IsWalked list most) (sym (walked_none (suc turns) terms place stands))
      (ended terms place most kept before (slice_get_none terms place stands) (omega (arith, bound)))
  walk_on terms place most (Some term) stands kept before within few bound =
      let here : place < length terms = slice_get_within terms place term stands in
      let others : List Term = terms_from terms place term in
      let new : List Term = fold with_term terms others in
      let grown : IsGrown terms new others (place + 1) = grows terms others (place + 1) kept (all_plain terms others (from_fits terms place term kept.list stands) (from_plain terms place term)) (omega (arith, here)) in
      let cut : turns_left terms place ≡ cost terms term + turns_left terms (place + 1) = left_cut terms place term stands in
      let less : turns_left new (place + 1) + 1 ≤ turns_left terms place = omega (arith, grown.few, cut, from_cost terms place term kept stands) in
      let closed : AreClosedBefore new (place + 1) = subst (λ (list : List Term). AreClosedBefore list (place + 1)) (sym grown.is)
      (closed_more terms grown.more place term kept stands before (subst (λ (list : List Term). AllByRecursion (λ other. IsIn list (Leaf other)) others) grown.is grown.listed)) in
      subst (λ (list : List Term). IsWalked list most) (sym (walked_some turns terms place term stands))
      (on new (place + 1) most grown.kept closed (omega (arith, here, ap length grown.is, length-append terms grown.more)) (omega (arith, less, few)) (omega (arith, less, bound)))

walks : (turns : ℕ) (terms : List Term) (place most : ℕ) → IsKept terms → AreClosedBefore terms place → place ≤ length terms → turns_left terms place ≤ turns → place + turns_left terms place ≤ most
    → IsWalked (walked turns terms place) most
walks zero terms place most kept before within few bound =
    ended terms place most kept before (omega (arith, costs_least terms (drop place terms), length-drop place terms, few)) (omega (arith, bound))
walks (suc turns) terms place most kept before within few bound = walk_on turns (walks turns) terms place most (slice_get terms place) refl kept before within few bound

-- the list that is closed is a list of terms, has all terms to which its terms lead, and at most four for each that it had
pub closed_walked : (terms : List Term) → IsKept terms → IsWalked (closed terms) (4 * length terms)
closed_walked terms kept =
    walks (4 * length terms) terms 0 (4 * length terms) kept (λ place term below stands. absurd (omega (arith, below))) (omega arith) (costs_most terms terms) (omega (arith, costs_most terms terms))
