-- A list of terms grows by a new one.
use Rattle.std.proofs.Common.{◌≡◌, ◌≢◌, ℕ, zero, suc, ◌<◌, ◌-◌, ◌^◌, List, [], ◌∷◌, ◌++◌, length, take, slice_get, Some, refl, ap, subst, sym, arith, inl, inr, ◌⊎◌, ◌∙◌, length-append}
use Rattle.std.proofs.lemmas.List.{take-append-le, take_all}
use Rattle.rh_term.specs.Term.{IsTermList, HasParts, HasNumber, IsAdded}
use Rattle.rh_term.specs.declared.term.Term.{Term}

-- a place of a longer list is one of the list itself, or the last one
pub last_or_before : (terms : List Term) (new : Term) (i : ℕ) (term : Term) → slice_get (terms ++ new ∷ []) i ≡ Some term
    → ((i < length terms) × (slice_get terms i ≡ Some term)) ⊎ ((i ≡ length terms) × (term ≡ new))
last_or_before [] new zero term e = inr (cc, cc)
last_or_before [] new (suc i) term e = cc
last_or_before (t ∷ ts) new zero term e = inl (omega arith, e)
last_or_before (t ∷ ts) new (suc i) term e =
    elim (last_or_before ts new i term e) [ inl h ↦ inl (omega (arith, h.0), h.1) | inr h ↦ inr (ap suc h.0, h.1) ]

abbrev Holds : List Term → ℕ → Term → Type 0
Holds terms i term = HasParts (take i terms) term

pub grown : (terms : List Term) (new : Term) → IsTermList terms → HasParts terms new → HasNumber new
    → ((place : ℕ) → slice_get terms place ≢ Some new) → IsTermList (terms ++ new ∷ [])
grown terms new list parts number absent = record {
  different = λ i j term a b.
      elim (last_or_before terms new i term a) [
        | inl h ↦ elim (last_or_before terms new j term b) [
          | inl k ↦ list.different i j term h.1 k.1
          | inr k ↦ absurd (absent i (h.1 ∙ ap Some k.1))
        ]
        | inr h ↦ elim (last_or_before terms new j term b) [
          | inl k ↦ absurd (absent j (k.1 ∙ ap Some h.1))
          | inr k ↦ h.0 ∙ sym k.0
        ]
      ];
  parts = λ i term a.
      elim (last_or_before terms new i term a) [
        | inl h ↦ let short : take i (terms ++ new ∷ []) ≡ take i terms = take-append-le i terms (new ∷ []) (omega (arith, h.0)) in
            subst (λ front. HasParts front term) (sym short) (list.parts i term h.1)
        | inr h ↦ let whole : take i (terms ++ new ∷ []) ≡ terms = take-append-le i terms (new ∷ []) (omega (arith, h.0)) ∙ take_all i terms (omega (arith, h.0)) in
            subst (λ front. HasParts front term) (sym whole) (subst (HasParts terms) (sym h.1) parts)
      ];
  numbers = λ i term a.
      elim (last_or_before terms new i term a) [ inl h ↦ list.numbers i term h.1 | inr h ↦ subst HasNumber (sym h.1) number ];
}

pub stands_last : (terms : List Term) (new : Term) → slice_get (terms ++ new ∷ []) (length terms) ≡ Some new
stands_last [] new = refl
stands_last (t ∷ ts) new = stands_last ts new

pub added : (old new : List Term) (term : Term) (place : ℕ) → new ≡ old ++ term ∷ [] → place ≡ length old → IsAdded old new term place
added old new term place e at_end = record {
  stands = rw (e, at_end) (stands_last old term);
  was_there = λ before. absurd (omega (arith, before));
  was_new = λ _. e;
}

-- what a list of terms has to be
abbrev pub IsKept : List Term → Type 0
IsKept terms = IsTermList terms × (length terms < 2 ^ 32)

pub kept : (items self new : List Term) (term : Term) → items ≡ self → new ≡ items ++ term ∷ [] → IsKept items → HasParts self term
    → HasNumber term → ((place : ℕ) → slice_get self place ≢ Some term) → length self < 2 ^ 32 - 1 → IsKept new
kept items self new term same e invariant parts number absent room =
    let list : IsTermList self = subst IsTermList same invariant.0 in
    subst IsKept (sym (e ∙ ap (λ terms. terms ++ term ∷ []) same))
    (grown self term list parts number absent, simp length-append (omega (arith, room)))
