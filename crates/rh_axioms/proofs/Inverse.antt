-- The term of which these are the parts.
use Rattle.std.proofs.Common.{◌≡◌, ℕ, ℤ, Option, Some, None, refl, ap, sym, ◌∙◌, inl, inr}
use Rattle.std.specs.Option.{option_and_then}
use Rattle.std.specs.Prelude.{if◌then◌else◌}
use Rattle.std.proofs.lemmas.Bool.{cases_Bool, cond-true, cond-false}
use Rattle.rh_il.specs.declared.value.Op.{Op as Operator}
use Rattle.rh_il.specs.Op.{op_eq}
use Rattle.rh_il.proofs.Operators.{op_eq-true}
use Rattle.rh_term.specs.declared.term.Term.{Term}
use Rattle.rh_term.specs.declared.term.Term.TheVariants.{Num, Sel, Upd, Op, Kind, Una}
use Rattle.rh_axioms.specs.Parts.{as_num, as_sel, as_upd, as_op, as_kind, as_una, operands}

got : {A : Type 0} (a b : A) → Some a ≡ Some b → a ≡ b
got a b e = cc

pub num_of : (t : Term) (p : ℤ) → as_num t ≡ Some p → t ≡ Num p
num_of (Num a) p e = ap (λ (p : ℤ). Num p) (got a p e)
num_of _ p e = cc

pub sel_of : (t : Term) (p : ℕ × ℕ) → as_sel t ≡ Some p → t ≡ Sel p.0 p.1
sel_of (Sel a b) p e = ap (λ (p : ℕ × ℕ). Sel p.0 p.1) (got (a, b) p e)
sel_of _ p e = cc

pub upd_of : (t : Term) (p : ℕ × ℕ × ℕ) → as_upd t ≡ Some p → t ≡ Upd p.0 p.1 p.2
upd_of (Upd a b c) p e = ap (λ (p : ℕ × ℕ × ℕ). Upd p.0 p.1 p.2) (got (a, b, c) p e)
upd_of _ p e = cc

pub op_of : (t : Term) (p : Operator × ℕ × ℕ) → as_op t ≡ Some p → t ≡ Op p.0 p.1 p.2
op_of (Op a b c) p e = ap (λ (p : Operator × ℕ × ℕ). Op p.0 p.1 p.2) (got (a, b, c) p e)
op_of _ p e = cc

pub kind_of : (t : Term) (p : ℕ) → as_kind t ≡ Some p → t ≡ Kind p
kind_of (Kind a) p e = ap (λ (p : ℕ). Kind p) (got a p e)
kind_of _ p e = cc

pub una_of : (t : Term) (p : ℕ × ℕ) → as_una t ≡ Some p → t ≡ Una p.0 p.1
una_of (Una a b) p e = ap (λ (p : ℕ × ℕ). Una p.0 p.1) (got (a, b) p e)
una_of _ p e = cc

from_operation : (op : Operator) (t : Term) (p : ℕ × ℕ) (found : Option (Operator × ℕ × ℕ)) → as_op t ≡ found
    → option_and_then (λ (parts : Operator × ℕ × ℕ). if op_eq parts.0 op then Some (parts.1, parts.2) else None) found ≡ Some p → t ≡ Op op p.0 p.1
from_operation op t p None h e = cc
from_operation op t p (Some q) h e =
    elim (cases_Bool (op_eq q.0 op)) [
      | inl y ↦ op_of t q h ∙ ap (λ o. Op o q.1 q.2) (op_eq-true q.0 op y)
          ∙ ap (λ (p : ℕ × ℕ). Op op p.0 p.1) (got (q.1, q.2) p (sym (cond-true (op_eq q.0 op) (Some (q.1, q.2)) None y) ∙ e))
      | inr n ↦ let f : None ≡ Some p = sym (cond-false (op_eq q.0 op) (Some (q.1, q.2)) None n) ∙ e in cc
    ]

pub operands_of : (op : Operator) (t : Term) (p : ℕ × ℕ) → operands op t ≡ Some p → t ≡ Op op p.0 p.1
operands_of op t p e = from_operation op t p (as_op t) refl e
