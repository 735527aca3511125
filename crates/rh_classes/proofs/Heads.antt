-- What congruent terms have in common, by their heads.
use Rattle.std.proofs.Common.{◌≡◌, ℕ, Bool, true, IsTrue, ◌↔◌, sym, refl, subst, ap, ◌∙◌}
use Rattle.rh_il.specs.declared.value.Op.{Op as Operator}
use Rattle.rh_term.specs.declared.term.Term.{Term}
use Rattle.rh_term.specs.declared.term.Term.TheVariants.{Sel, Upd, Op, Kind, Una}
use Rattle.rh_term.specs.Clause.{Sameness}
use Rattle.rh_term.specs.Partition.{Congruent, alone, sel, upd, op, kind, una}

module _ (same : Sameness) (reflexive : (i : ℕ) → same i i ≡ true) where
  pub sel_parts : {s t a b : ℕ} → Congruent same (Sel s a) (Sel t b) → (same s t ≡ true) × (same a b ≡ true)
  sel_parts alone = (reflexive _, reflexive _)
  sel_parts (sel p q) = (p, q)

  pub upd_parts : {s t a b v w : ℕ} → Congruent same (Upd s a v) (Upd t b w) → (same s t ≡ true) × (same a b ≡ true) × (same v w ≡ true)
  upd_parts alone = (reflexive _, reflexive _, reflexive _)
  upd_parts (upd p q r) = (p, q, r)

  pub op_parts : {o p : Operator} {a b c d : ℕ} → Congruent same (Op o a b) (Op p c d) → (o ≡ p) × (same a c ≡ true) × (same b d ≡ true)
  op_parts alone = (refl, reflexive _, reflexive _)
  op_parts (op p q) = (refl, p, q)

  pub kind_parts : {a b : ℕ} → Congruent same (Kind a) (Kind b) → same a b ≡ true
  kind_parts alone = reflexive _
  kind_parts (kind p) = p

  pub una_parts : {s t a b : ℕ} → Congruent same (Una s a) (Una t b) → (same s t ≡ true) × (same a b ≡ true)
  una_parts alone = (reflexive _, reflexive _)
  una_parts (una p q) = (p, q)

  pub leaf_alone : {t u : Term} → ((s a : ℕ) → t ≡ Sel s a → ⊥) → ((s a v : ℕ) → t ≡ Upd s a v → ⊥)
      → ((o : Operator) (a b : ℕ) → t ≡ Op o a b → ⊥) → ((a : ℕ) → t ≡ Kind a → ⊥) → ((s a : ℕ) → t ≡ Una s a → ⊥)
      → Congruent same t u → t ≡ u
  leaf_alone not_sel not_upd not_op not_kind not_una alone = refl
  leaf_alone not_sel not_upd not_op not_kind not_una (sel p q) = absurd (not_sel _ _ refl)
  leaf_alone not_sel not_upd not_op not_kind not_una (upd p q r) = absurd (not_upd _ _ _ refl)
  leaf_alone not_sel not_upd not_op not_kind not_una (op p q) = absurd (not_op _ _ _ refl)
  leaf_alone not_sel not_upd not_op not_kind not_una (kind p) = absurd (not_kind _ refl)
  leaf_alone not_sel not_upd not_op not_kind not_una (una p q) = absurd (not_una _ _ refl)

-- what the test of two terms says, by their heads
module _ (same : Sameness) (reflexive : (i : ℕ) → same i i ≡ true) (left right : Term) (r : Bool) where
  pub when_sel : (s a t b : ℕ) → left ≡ Sel s a → right ≡ Sel t b → same s t ≡ true → r ≡ same a b → (IsTrue r ↔ Congruent same left right)
  when_sel s a t b e f h k = rw (e, f) ((λ yes. sel h (sym k ∙ yes)), (λ c. k ∙ (sel_parts same reflexive c).1))

  pub when_upd : (s a v t b w : ℕ) → left ≡ Upd s a v → right ≡ Upd t b w → same s t ≡ true → same a b ≡ true → r ≡ same v w → (IsTrue r ↔ Congruent same left right)
  when_upd s a v t b w e f h l k = rw (e, f) ((λ yes. upd h l (sym k ∙ yes)), (λ c. k ∙ (upd_parts same reflexive c).2))

  pub when_op : (o p : Operator) (a b c d : ℕ) → left ≡ Op o a b → right ≡ Op p c d → o ≡ p → same a c ≡ true → r ≡ same b d → (IsTrue r ↔ Congruent same left right)
  when_op o p a b c d e f g h k =
      let e' : left ≡ Op p a b = e ∙ ap (λ x. Op x a b) g in
      rw (e', f) ((λ yes. op h (sym k ∙ yes)), (λ q. k ∙ (op_parts same reflexive q).2))

  pub when_kind : (a b : ℕ) → left ≡ Kind a → right ≡ Kind b → r ≡ same a b → (IsTrue r ↔ Congruent same left right)
  when_kind a b e f k = rw (e, f) ((λ yes. kind (sym k ∙ yes)), (λ c. k ∙ kind_parts same reflexive c))

  pub when_una : (s a t b : ℕ) → left ≡ Una s a → right ≡ Una t b → same s t ≡ true → r ≡ same a b → (IsTrue r ↔ Congruent same left right)
  when_una s a t b e f h k = rw (e, f) ((λ yes. una h (sym k ∙ yes)), (λ c. k ∙ (una_parts same reflexive c).1))

  pub when_leaf : ((s a : ℕ) → left ≡ Sel s a → ⊥) → ((s a v : ℕ) → left ≡ Upd s a v → ⊥)
      → ((o : Operator) (a b : ℕ) → left ≡ Op o a b → ⊥) → ((a : ℕ) → left ≡ Kind a → ⊥) → ((s a : ℕ) → left ≡ Una s a → ⊥)
      → (r ≡ true → left ≡ right) → (left ≡ right → r ≡ true) → (IsTrue r ↔ Congruent same left right)
  when_leaf not_sel not_upd not_op not_kind not_una same_term back =
      ((λ t. subst (Congruent same left) (same_term t) alone), (λ c. back (leaf_alone same reflexive not_sel not_upd not_op not_kind not_una c)))
