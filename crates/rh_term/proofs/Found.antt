-- The place at which a term is found.
use Rattle.std.proofs.Common.{◌≡◌, ◌≢◌, ℕ, suc, ◌+◌, Bool, true, false, ◌&&◌, ◌||◌, ◌++◌, ◌==◌, cond, List, [], ◌∷◌, zero, Option, Some, None, slice_get, refl, ap, sym, subst, arith, ◌∙◌}
use Rattle.std.proofs.lemmas.Bool.{both_ways, cond-false, false_from_ne_true}
use Rattle.std.proofs.lemmas.Bool.Decides.{same_from_decides}
use Rattle.std.proofs.lemmas.Iterator.Adapters.{position_from-zero}
use Rattle.std.specs.List.{list_any, position, position_from}
use Rattle.std.specs.Option.{option_map}
use Rattle.rh_il.specs.Op.{op_eq}
use Rattle.rh_il.specs.declared.value.Op.{Op as Operator}
use Rattle.rh_il.specs.declared.value.Op.TheVariants.{Add, Sub, Mul, Less, Equal}
use Rattle.rh_il.specs.contracts.value.OpPartialEq.TheImpl.{eq-value as op_value}
use Rattle.indexmap.specs.IndexSet.{insert_key}
use Rattle.rh_term.specs.declared.term.Term.{Term}
use Rattle.rh_term.specs.declared.term.Term.TheVariants.{Num, Cst, Addr, Any, Fresh, Answer, Before, After, Start, Sel, Upd, Op, Kind, IsNum, IsPtr, Una, Yes}
use Rattle.rh_term.specs.Place.{same_term, place_in}
use Rattle.rh_term.specs.contracts.term.TermPartialEq.TheImpl.{eq-value}
use Rattle.rh_term.proofs.Placed.{same_term-true, same_term-refl}

derived_op : (o p : Operator) → op_value.it o p ≡ op_eq o p
derived_op Add Add = refl
derived_op Sub Sub = refl
derived_op Mul Mul = refl
derived_op Less Less = refl
derived_op Equal Equal = refl
derived_op _ _ = refl

-- the comparison of the code is that of the definitions
pub derived_same : (t u : Term) → eq-value.it t u ≡ same_term t u
derived_same (Num a) (Num d) = refl
derived_same (Cst a) (Cst d) = refl
derived_same (Addr a) (Addr d) = refl
derived_same Any Any = refl
derived_same Fresh Fresh = refl
derived_same Answer Answer = refl
derived_same Before Before = refl
derived_same After After = refl
derived_same Start Start = refl
derived_same (Sel a b) (Sel d e) = refl
derived_same (Upd a b c) (Upd d e f) = refl
derived_same (Op a b c) (Op d e f) = ap (λ same. same && (b == e && c == f)) (derived_op a d)
derived_same (Kind a) (Kind d) = refl
derived_same IsNum IsNum = refl
derived_same IsPtr IsPtr = refl
derived_same (Una a b) (Una d e) = refl
derived_same Yes Yes = refl
derived_same _ _ = refl

-- the place from a number on, one further for each term that is not it
abbrev from : ℕ → Option ℕ → Option ℕ
from at = option_map (λ place. at + place)

step : (same : Bool) (at : ℕ) (behind found : Option ℕ) → found ≡ from (at + 1) behind
    → cond same (Some at) found ≡ from at (cond same (Some 0) (option_map suc behind))
step true at behind found e = ap Some (omega arith)
step false at None found e = e
step false at (Some place) found e = e ∙ ap Some (omega arith)

position_is : (test : Term → Bool) (terms : List Term) (term : Term) (at : ℕ) → ((other : Term) → test other ≡ same_term other term)
    → position_from test at terms ≡ from at (place_in terms term)
position_is test [] term at same = refl
position_is test (first ∷ terms) term at same =
    ap (λ b. cond b (Some at) (position_from test (at + 1) terms)) (same first)
    ∙ step (same_term first term) at (place_in terms term) (position_from test (at + 1) terms) (position_is test terms term (at + 1) same)

from_zero : (place : Option ℕ) → from 0 place ≡ place
from_zero None = refl
from_zero (Some place) = ap Some (omega arith)

either_way : (t u : Term) → same_term t u ≡ same_term u t
either_way t u =
    same_from_decides (same_term t u) (same_term u t)
    (same_term-true t u, (λ e. subst (λ x. same_term t x ≡ true) e (same_term-refl t)))
    ((λ e. sym (same_term-true u t e)), (λ e. subst (λ x. same_term x t ≡ true) e (same_term-refl t)))

-- the set looks a term up by the first place at which it stands
pub looked_up : (keys terms : List Term) (term : Term) (found : Option ℕ) → found ≡ position (eq-value.it term) keys → keys ≡ terms
    → found ≡ place_in terms term
looked_up keys terms term found e same =
    e ∙ position_from-zero (eq-value.it term) keys
    ∙ position_is (eq-value.it term) keys term 0 (λ other. derived_same term other ∙ either_way term other)
    ∙ from_zero (place_in keys term) ∙ ap (λ all. place_in all term) same

behind_none : (same : Bool) (behind : Option ℕ) → cond same (Some 0) (option_map suc behind) ≡ None → (same ≡ false) × (behind ≡ None)
behind_none true behind e = cc
behind_none false None e = (refl, refl)
behind_none false (Some place) e = cc

-- a term without a place stands nowhere
pub not_there : (terms : List Term) (term : Term) → place_in terms term ≡ None → (place : ℕ) → slice_get terms place ≢ Some term
not_there [] term e place h = cc
not_there (first ∷ terms) term e zero h =
    let apart = (behind_none (same_term first term) (place_in terms term) e).0 in
    let same : first ≡ term = cc in
    both_ways (same_term first term) apart (subst (λ t. same_term first t ≡ true) same (same_term-refl first))
not_there (first ∷ terms) term e (suc place) h =
    not_there terms term (behind_none (same_term first term) (place_in terms term) e).1 place h

neither : (a b : Bool) → a ≡ false → b ≡ false → (a || b) ≡ false
neither true b e f = e
neither false b e f = f

nowhere : (terms : List Term) (term : Term) → ((place : ℕ) → slice_get terms place ≢ Some term) → list_any (eq-value.it term) terms ≡ false
nowhere [] term missing = refl
nowhere (first ∷ terms) term missing =
    neither (eq-value.it term first) (list_any (eq-value.it term) terms)
    (false_from_ne_true (eq-value.it term first) (λ e. missing 0 (ap Some (sym (same_term-true term first (sym (derived_same term first) ∙ e))))))
    (nowhere terms term (λ place. missing (suc place)))

-- a term that stands nowhere is put at the end
pub put_last : (keys terms new : List Term) (term : Term) → keys ≡ terms → ((place : ℕ) → slice_get terms place ≢ Some term)
    → new ≡ insert_key eq-value.it keys term → new ≡ keys ++ term ∷ []
put_last keys terms new term same missing e =
    e ∙ cond-false (list_any (eq-value.it term) keys) keys (keys ++ term ∷ [])
    (ap (list_any (eq-value.it term)) same ∙ nowhere terms term missing)
