-- The place of a term in a list.
use Rattle.std.specs.Prelude.{ℕ, suc, Bool, true, false, ◌&&◌, ◌==◌, List, [], ◌∷◌, Option, Some, None, if◌then◌else◌}
use Rattle.std.specs.Ordering.{int_eq}
use Rattle.std.specs.Option.{option_map}
use Rattle.rh_il.specs.Op.{op_eq}
use Rattle.rh_term.specs.declared.term.Term.{Term}
use Rattle.rh_term.specs.declared.term.Term.TheVariants.{Num, Cst, Addr, Any, Fresh, Answer, Before, After, Start, Sel, Upd, Op, Kind, IsNum, IsPtr, Una, Yes}

-- the terms are one
abbrev pub same_term : Term → Term → Bool
same_term (Num a) (Num b) = int_eq a b
same_term (Cst a) (Cst b) = a == b
same_term (Addr a) (Addr b) = a == b
same_term Any Any = true
same_term Fresh Fresh = true
same_term Answer Answer = true
same_term Before Before = true
same_term After After = true
same_term Start Start = true
same_term (Sel s a) (Sel t b) = s == t && a == b
same_term (Upd s a v) (Upd t b w) = s == t && (a == b && v == w)
same_term (Op o a b) (Op p c d) = op_eq o p && (a == c && b == d)
same_term (Kind a) (Kind b) = a == b
same_term IsNum IsNum = true
same_term IsPtr IsPtr = true
same_term (Una s a) (Una t b) = s == t && a == b
same_term Yes Yes = true
same_term _ _ = false

-- the first place at which the term stands
abbrev pub place_in : List Term → Term → Option ℕ
place_in [] term = None
place_in (first ∷ terms) term = if same_term first term then Some 0 else option_map suc (place_in terms term)
