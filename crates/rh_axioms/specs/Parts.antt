-- The parts of a term, where it has a certain head.
use Rattle.std.specs.Prelude.{ℕ, ℤ, Option, Some, None, if◌then◌else◌}
use Rattle.std.specs.Option.{option_and_then}
use Rattle.rh_il.specs.declared.value.Op.{Op as Operator}
use Rattle.rh_il.specs.Op.{op_eq}
use Rattle.rh_term.specs.declared.term.Term.{Term}
use Rattle.rh_term.specs.declared.term.Term.TheVariants.{Num, Sel, Upd, Op, Kind, Una}

abbrev pub as_num : Term → Option ℤ
as_num (Num number) = Some number
as_num _ = None

abbrev pub as_sel : Term → Option (ℕ × ℕ)
as_sel (Sel store address) = Some (store, address)
as_sel _ = None

abbrev pub as_upd : Term → Option (ℕ × ℕ × ℕ)
as_upd (Upd store address value) = Some (store, address, value)
as_upd _ = None

abbrev pub as_op : Term → Option (Operator × ℕ × ℕ)
as_op (Op op left right) = Some (op, left, right)
as_op _ = None

abbrev pub as_kind : Term → Option ℕ
as_kind (Kind value) = Some value
as_kind _ = None

abbrev pub as_una : Term → Option (ℕ × ℕ)
as_una (Una store value) = Some (store, value)
as_una _ = None

-- the operands, where the term is of this operator
abbrev pub operands : Operator → Term → Option (ℕ × ℕ)
operands op term = option_and_then (λ parts. if op_eq parts.0 op then Some (parts.1, parts.2) else None) (as_op term)
