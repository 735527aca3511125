-- A term without a head has no parts of it.
use Rattle.std.proofs.Common.{◌≡◌, ℕ, ℤ, None, refl}
use Rattle.rh_il.specs.declared.value.Op.{Op as Operator}
use Rattle.rh_term.specs.declared.term.Term.{Term}
use Rattle.rh_term.specs.declared.term.Term.TheVariants.{Num, Cst, Addr, Sel, Upd, Op, Kind, Una}
use Rattle.rh_axioms.specs.Parts.{as_num, as_sel, as_upd, as_op, as_kind, as_una}
use Rattle.rh_axioms.specs.Rows.{number_kind, constant_kind, address_kind, operation_kind}

pub no_num : (t : Term) → ((a : ℤ) → t ≡ Num a → ⊥) → as_num t ≡ None
no_num (Num a) h = absurd (h a refl)
no_num _ h = refl

pub no_sel : (t : Term) → ((a b : ℕ) → t ≡ Sel a b → ⊥) → as_sel t ≡ None
no_sel (Sel a b) h = absurd (h a b refl)
no_sel _ h = refl

pub no_upd : (t : Term) → ((a b c : ℕ) → t ≡ Upd a b c → ⊥) → as_upd t ≡ None
no_upd (Upd a b c) h = absurd (h a b c refl)
no_upd _ h = refl

pub no_op : (t : Term) → ((a : Operator) (b c : ℕ) → t ≡ Op a b c → ⊥) → as_op t ≡ None
no_op (Op a b c) h = absurd (h a b c refl)
no_op _ h = refl

pub no_kind : (t : Term) → ((a : ℕ) → t ≡ Kind a → ⊥) → as_kind t ≡ None
no_kind (Kind a) h = absurd (h a refl)
no_kind _ h = refl

pub no_una : (t : Term) → ((a b : ℕ) → t ≡ Una a b → ⊥) → as_una t ≡ None
no_una (Una a b) h = absurd (h a b refl)
no_una _ h = refl

pub no_number_kind : (t : Term) → ((a : ℤ) → t ≡ Num a → ⊥) → number_kind t ≡ None
no_number_kind (Num a) h = absurd (h a refl)
no_number_kind _ h = refl

pub no_constant_kind : (t : Term) → ((a : ℕ) → t ≡ Cst a → ⊥) → constant_kind t ≡ None
no_constant_kind (Cst a) h = absurd (h a refl)
no_constant_kind _ h = refl

pub no_address_kind : (t : Term) → ((a : ℕ) → t ≡ Addr a → ⊥) → address_kind t ≡ None
no_address_kind (Addr a) h = absurd (h a refl)
no_address_kind _ h = refl

pub no_operation_kind : (t : Term) → ((a : Operator) (b c : ℕ) → t ≡ Op a b c → ⊥) → operation_kind t ≡ None
no_operation_kind (Op a b c) h = absurd (h a b c refl)
no_operation_kind _ h = refl
