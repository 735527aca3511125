-- Where one to three literals make a true clause, and where denotations are alike.
use Rattle.std.proofs.Common.{◌≡◌, Bool, true, false, ◌||◌, List, refl, ap, sym, subst, ◌∙◌}
use Rattle.std.specs.Prelude.{not}
use Rattle.rh_il.specs.declared.value.Value.{Value}
use Rattle.rh_term.specs.Model.{Denotation, AValue, AStore, AKind, AnAnswer, alike}
use Rattle.rh_term.proofs.Alike.{alike-refl}
use Rattle.rh_term.proofs.Stores.{SameReads, value_eq-same, reads-same_store}

-- ---- clauses of literals

pub one_differs : (x : Bool) → x ≡ false → (not x || false) ≡ true
one_differs true h = cc
one_differs false h = refl

pub one_equals : (z : Bool) → z ≡ true → (z || false) ≡ true
one_equals true h = refl
one_equals false h = cc

pub then_equal : (x z : Bool) → (x ≡ true → z ≡ true) → (not x || (z || false)) ≡ true
then_equal true z h = one_equals z (h refl)
then_equal false z h = refl

pub else_equal : (x z : Bool) → (x ≡ false → z ≡ true) → (x || (z || false)) ≡ true
else_equal true z h = refl
else_equal false z h = one_equals z (h refl)

pub never_both : (x y : Bool) → (x ≡ true → y ≡ true → ⊥) → (not x || (not y || false)) ≡ true
never_both true true h = absurd (h refl refl)
never_both true false h = refl
never_both false y h = refl

pub both_then_equal : (x y z : Bool) → (x ≡ true → y ≡ true → z ≡ true) → (not x || (not y || (z || false))) ≡ true
both_then_equal true true z h = one_equals z (h refl refl)
both_then_equal true false z h = refl
both_then_equal false y z h = refl

pub then_else_equal : (x y z : Bool) → (x ≡ true → y ≡ false → z ≡ true) → (not x || (y || (z || false))) ≡ true
then_else_equal true true z h = refl
then_else_equal true false z h = one_equals z (h refl refl)
then_else_equal false y z h = refl

-- ---- what is alike

pub alike_values : (d e : Denotation) (v w : Value) → d ≡ AValue v → e ≡ AValue w → v ≡ w → alike d e ≡ true
alike_values d e v w f g h = rw (f, g) (value_eq-same v w h)

pub alike_stores : (d e : Denotation) (s t : List Value) → d ≡ AStore s → e ≡ AStore t → SameReads s t → alike d e ≡ true
alike_stores d e s t f g h = rw (f, g) (reads-same_store s t h)

pub alike_kinds : (d e : Denotation) (a b : Bool) → d ≡ AKind a → e ≡ AKind b → a ≡ b → alike d e ≡ true
alike_kinds d e a b f g h = let k : d ≡ e = f ∙ ap AKind h ∙ sym g in subst (λ x. alike d x ≡ true) k (alike-refl d)

pub alike_answers : (d e : Denotation) (a b : Bool) → d ≡ AnAnswer a → e ≡ AnAnswer b → a ≡ b → alike d e ≡ true
alike_answers d e a b f g h = let k : d ≡ e = f ∙ ap AnAnswer h ∙ sym g in subst (λ x. alike d x ≡ true) k (alike-refl d)

same_kinds : (a b : Bool) → alike (AKind a) (AKind b) ≡ true → a ≡ b
same_kinds true true h = refl
same_kinds true false h = cc
same_kinds false true h = cc
same_kinds false false h = refl

same_answers : (a b : Bool) → alike (AnAnswer a) (AnAnswer b) ≡ true → a ≡ b
same_answers true true h = refl
same_answers true false h = cc
same_answers false true h = cc
same_answers false false h = refl

pub kinds_alike : (d e : Denotation) (a b : Bool) → d ≡ AKind a → e ≡ AKind b → alike d e ≡ true → a ≡ b
kinds_alike d e a b f g h = same_kinds a b (sym (ap (λ x. alike x e) f ∙ ap (alike (AKind a)) g) ∙ h)

pub answers_alike : (d e : Denotation) (a b : Bool) → d ≡ AnAnswer a → e ≡ AnAnswer b → alike d e ≡ true → a ≡ b
answers_alike d e a b f g h = same_answers a b (sym (ap (λ x. alike x e) f ∙ ap (alike (AnAnswer a)) g) ∙ h)
