-- The list with all terms to which its terms lead.
use Rattle.std.proofs.Common.{ℕ, zero, suc, ◌≡◌, ◌+◌, ◌*◌, true, List, [], ◌∷◌, length, drop, get_or, add-one, arith, length-append, ◌<◌, ◌≤◌, ◌-◌, Option, Some, None, refl, ap, sym, subst, ◌∙◌}
use Rattle.std.specs.Prelude.{slice_get, fold}
use Rattle.std.specs.List.{AllByRecursion}
use Rattle.std.proofs.Math.Seq.{drop-cons}
use Rattle.rh_il.specs.declared.value.Op.{Op as Operator}
use Rattle.rh_term.specs.declared.term.Term.{Term}
use Rattle.rh_term.specs.declared.term.Term.TheVariants.{Num, Cst, Addr, Any, Fresh, Answer, Before, After, Start, Sel, Upd, Op as Computed, Kind, IsNum, IsPtr, Una, Yes}
use Rattle.rh_term.specs.Term.{is_value_term, is_at, HasParts, IsTermList}
use Rattle.rh_meaning.specs.Tree.{Extends, Tree, with_term, with_tree}
use Rattle.rh_meaning.proofs.Places.{extends_itself, extends_further, with_term_has}
use Rattle.rh_meaning.specs.Sorts.{IsIn}
use Rattle.rh_meaning.proofs.Trees.{stays_in, with_tree_has}
use Rattle.rh_meaning.proofs.Sorted.{at_place, parts_here, parts_in}
use Rattle.rh_oblig.specs.TermList.{with_trees, folded, read_below, unheld_below, terms_from, walked, closed, AreFit}

-- ---- the trees of an obligation

pub with_trees_extends : (terms : List Term) (trees : List Tree) → Extends terms (with_trees terms trees)
with_trees_extends terms [] = extends_itself terms
with_trees_extends terms (tree ∷ trees) = extends_further (with_tree_has terms tree).grown (with_trees_extends (with_tree terms tree) trees)

pub with_trees_has : (terms : List Term) (trees : List Tree) → AllByRecursion (IsIn (with_trees terms trees)) trees
with_trees_has terms [] = tt
with_trees_has terms (tree ∷ trees) = (
  stays_in (with_tree terms tree) (with_trees (with_tree terms tree) trees) tree (with_trees_extends (with_tree terms tree) trees) (with_tree_has terms tree).is_in,
  with_trees_has (with_tree terms tree) trees,
)

-- ---- the terms to which terms lead

folded_fits : (terms : List Term) (op : Operator) (left right : Option Term) → AreFit terms (folded op left right)
folded_fits terms op (Some (Num a)) (Some (Num b)) = (tt, tt)
folded_fits terms op left right = tt

-- the store of a list of terms, at a place where an update stands
read_fits : (terms : List Term) (list : IsTermList terms) (store address : ℕ) (below : Option Term) → slice_get terms store ≡ below
    → is_at is_value_term terms address ≡ true → AreFit terms (read_below below address)
read_fits terms list store address (Some (Upd old at value)) stands value_at =
    let parts : HasParts terms (Upd old at value) = parts_here terms store (Upd old at value) list stands in
    ((parts.0, value_at), tt)
read_fits terms list store address below stands value_at = tt

unheld_fits : (terms : List Term) (list : IsTermList terms) (store address : ℕ) (below : Option Term) → slice_get terms store ≡ below
    → is_at is_value_term terms address ≡ true → AreFit terms (unheld_below below address)
unheld_fits terms list store address (Some (Upd old at value)) stands value_at =
    let parts : HasParts terms (Upd old at value) = parts_here terms store (Upd old at value) list stands in
    ((parts.0, value_at), tt)
unheld_fits terms list store address below stands value_at = tt

kind_fits : (terms : List Term) (place : ℕ) (term : Term) → slice_get terms place ≡ Some term → is_value_term term ≡ true → HasParts terms (Kind place)
kind_fits terms place term stands v = at_place is_value_term terms place term stands v

pub from_fits : (terms : List Term) (place : ℕ) (term : Term) → IsTermList terms → slice_get terms place ≡ Some term → AreFit terms (terms_from terms place term)
from_fits terms place (Num number) list stands = (kind_fits terms place (Num number) stands refl, tt)
from_fits terms place (Cst meta) list stands = (kind_fits terms place (Cst meta) stands refl, tt)
from_fits terms place (Addr meta) list stands = (kind_fits terms place (Addr meta) stands refl, tt)
from_fits terms place Any list stands = (kind_fits terms place Any stands refl, tt)
from_fits terms place Fresh list stands = (kind_fits terms place Fresh stands refl, tt)
from_fits terms place Answer list stands = (kind_fits terms place Answer stands refl, tt)
from_fits terms place (Sel store address) list stands = (
  kind_fits terms place (Sel store address) stands refl,
  read_fits terms list store address (slice_get terms store) refl (parts_here terms place (Sel store address) list stands).1,
)
from_fits terms place (Computed op left right) list stands =
    (kind_fits terms place (Computed op left right) stands refl, folded_fits terms op (slice_get terms left) (slice_get terms right))
from_fits terms place (Upd store address value) list stands =
    let parts : HasParts terms (Upd store address value) = parts_here terms place (Upd store address value) list stands in
    ((parts.0, parts.1), tt)
from_fits terms place (Una store value) list stands =
    unheld_fits terms list store value (slice_get terms store) refl (parts_here terms place (Una store value) list stands).1
from_fits terms place Before list stands = tt
from_fits terms place After list stands = tt
from_fits terms place Start list stands = tt
from_fits terms place (Kind value) list stands = tt
from_fits terms place IsNum list stands = tt
from_fits terms place IsPtr list stands = tt
from_fits terms place Yes list stands = tt

folded_few : (op : Operator) (left right : Option Term) → length (folded op left right) ≤ 1
folded_few op (Some (Num a)) (Some (Num b)) = omega arith
folded_few op left right = omega arith

read_few : (below : Option Term) (address : ℕ) → length (read_below below address) ≤ 1
read_few (Some (Upd store at value)) address = omega arith
read_few below address = omega arith

unheld_few : (below : Option Term) (value : ℕ) → length (unheld_below below value) ≤ 1
unheld_few (Some (Upd store at value)) held = omega arith
unheld_few below held = omega arith

-- a term leads to two others at most
pub from_few : (terms : List Term) (place : ℕ) (term : Term) → length (terms_from terms place term) ≤ 2
from_few terms place (Sel store address) = omega (arith, read_few (slice_get terms store) address)
from_few terms place (Computed op left right) = omega (arith, folded_few op (slice_get terms left) (slice_get terms right))
from_few terms place (Una store value) = omega (arith, unheld_few (slice_get terms store) value)
from_few terms place _ = omega arith

-- they stay so where the list grows
pub fits_longer : (old new : List Term) (others : List Term) → Extends old new → AreFit old others → AreFit new others
fits_longer old new [] grown fits = tt
fits_longer old new (other ∷ others) grown fits = (parts_in old new other grown fits.0, fits_longer old new others grown fits.1)

pub with_terms_extends : (terms others : List Term) → Extends terms (fold with_term terms others)
with_terms_extends terms [] = extends_itself terms
with_terms_extends terms (other ∷ others) = extends_further (with_term_has terms other).0 (with_terms_extends (with_term terms other) others)

-- ---- the walk

walked_step : (turns : ℕ) (on : (terms : List Term) (place : ℕ) → Extends terms (walked turns terms place))
    (terms : List Term) (place : ℕ) (at : Option Term)
    → Extends terms (elim at as (λ _. List Term) [ None ↦ terms | Some term ↦ walked turns (fold with_term terms (terms_from terms place term)) (place + 1) ])
walked_step turns on terms place None = extends_itself terms
walked_step turns on terms place (Some term) =
    extends_further (with_terms_extends terms (terms_from terms place term)) (on (fold with_term terms (terms_from terms place term)) (place + 1))

pub walked_extends : (turns : ℕ) (terms : List Term) (place : ℕ) → Extends terms (walked turns terms place)
walked_extends zero terms place = extends_itself terms
walked_extends (suc turns) terms place = walked_step turns (walked_extends turns) terms place (slice_get terms place)

pub walked_longer : (turns : ℕ) (terms : List Term) (place : ℕ) → length terms ≤ length (walked turns terms place)
walked_longer turns terms place =
    let grown : Extends terms (walked turns terms place) = walked_extends turns terms place in
    omega (arith, ap length grown.is, length-append terms grown.more)

pub closed_extends : (terms : List Term) → Extends terms (closed terms)
closed_extends terms = walked_extends (4 * length terms) terms 0

-- ---- the walk of the code, turn by turn

pub walked_none : (turns : ℕ) (terms : List Term) (place : ℕ) → slice_get terms place ≡ None → walked turns terms place ≡ terms
walked_none zero terms place none = refl
walked_none (suc turns) terms place none =
    ap (λ at. elim at as (λ _. List Term) [ None ↦ terms | Some term ↦ walked turns (fold with_term terms (terms_from terms place term)) (place + 1) ]) none

pub walked_some : (turns : ℕ) (terms : List Term) (place : ℕ) (term : Term) → slice_get terms place ≡ Some term
    → walked (suc turns) terms place ≡ walked turns (fold with_term terms (terms_from terms place term)) (place + 1)
walked_some turns terms place term stands =
    ap (λ at. elim at as (λ _. List Term) [ None ↦ terms | Some term ↦ walked turns (fold with_term terms (terms_from terms place term)) (place + 1) ]) stands

-- one of the terms to which another leads is put behind the list
pub record AddsOne (old new others : List Term) (i : ℕ) : Type 0 where
  pub rest : fold with_term new (drop (i + 1) others) ≡ fold with_term old (drop i others)
  pub fit : AreFit new (drop (i + 1) others)

adds_one : (old new rest all : List Term) (other : Term) → all ≡ other ∷ rest → new ≡ with_term old other → AreFit old all
    → (fold with_term new rest ≡ fold with_term old all) × AreFit new rest
adds_one old new rest all other is added fit =
    let fits : AreFit old (other ∷ rest) = subst (AreFit old) is fit in (
      ap (λ t. fold with_term t rest) added ∙ ap (fold with_term old) (sym is),
      fits_longer old new rest (subst (Extends old) (sym added) (with_term_has old other).0) fits.1,
    )

pub add_step : (old new others : List Term) (i : ℕ) (d : Term) → i < length others → new ≡ with_term old (get_or others i d) → AreFit old (drop i others) → AddsOne old new others i
add_step old new others i d within added fit =
    let cut : drop i others ≡ get_or others i d ∷ drop (i + 1) others = drop-cons others i d within ∙ ap (λ n. get_or others i d ∷ drop n others) (sym (add-one i)) in
    let both = adds_one old new (drop (i + 1) others) (drop i others) (get_or others i d) cut added fit in
    record { rest = both.0; fit = both.1 }

-- one turn of the walk
pub walk_step : (turns : ℕ) (old new : List Term) (place : ℕ) (term : Term) → place < turns → slice_get old place ≡ Some term → new ≡ fold with_term old (terms_from old place term)
    → walked (turns - (place + 1)) new (place + 1) ≡ walked (turns - place) old place
walk_step turns old new place term within stands is =
    let left : turns - place ≡ suc (turns - (place + 1)) = omega arith in
    ap (λ t. walked (turns - (place + 1)) t (place + 1)) is ∙ sym (ap (λ n. walked n old place) left ∙ walked_some (turns - (place + 1)) old place term stands)
