-- The clause schemas, each as what it gives for a term of the list, with its place, or for two or three.
use Rattle.std.specs.Prelude.{ℕ, ℤ, pos, Bool, true, false, ◌+◌, List, [], ◌∷◌, ◌++◌, Option, Some, None, nat_lt, ◌==◌, slice_get, if◌then◌else◌}
use Rattle.std.specs.List.{flat_map}
use Rattle.std.specs.Option.{option_and_then, option_map_or}
use Rattle.rh_il.specs.Op.{total}
use Rattle.rh_il.specs.declared.value.Op.{Op as Operator}
use Rattle.rh_il.specs.declared.value.Op.TheVariants.{Add, Sub, Mul, Less, Equal}
use Rattle.rh_il.specs.declared.value.Value.{Value}
use Rattle.rh_il.specs.declared.value.Value.TheVariants.{Num as ANumber, Ptr as APointer}
use Rattle.rh_term.specs.declared.clause.Clause.{Clause}
use Rattle.rh_term.specs.declared.term.Term.{Term}
use Rattle.rh_term.specs.declared.term.Term.TheVariants.{Num, Cst, Addr, Sel, Op, Kind, IsNum, IsPtr, Una, Yes}
use Rattle.rh_term.specs.Place.{place_in}
use Rattle.rh_axioms.specs.declared.table.Axiom.{Axiom}
use Rattle.rh_axioms.specs.declared.table.Axiom.TheVariants.{A1, A2, A3, A4, A5, A6, A7, A8, A9, A10, A11, A12, A13, A14, A15, A16, A17, A18, A19, A20, A21, A22, A23, A24}
use Rattle.rh_axioms.specs.declared.instance.Instance.{Instance}
use Rattle.rh_axioms.specs.declared.instance.Instance.TheVariants.{One, Two, Three}
use Rattle.rh_axioms.specs.Instance.{equal, differ, clauses_of}
use Rattle.rh_axioms.specs.Parts.{as_num, as_sel, as_upd, as_op, as_kind, as_una, operands}

-- what is made of a place of a term, where the term is in the list
abbrev pub where_is : List Term → Term → (ℕ → Option Instance) → Option Instance
where_is terms term make = option_and_then make (place_in terms term)

-- what is made of the parts of a write at a place
abbrev pub write_at : List Term → ℕ → (ℕ × ℕ × ℕ → Option Instance) → Option Instance
write_at terms place make = option_and_then make (option_and_then as_upd (slice_get terms place))

-- ---- stores

-- Sel(U, b), U = Upd(S, a, v):  a != b, Kind(a) != IsPtr, Sel(U, b) == v
abbrev pub read_back : List Term → ℕ → Term → Option Instance
read_back terms place term =
    option_and_then (λ read. write_at terms read.0 (λ write. where_is terms (Kind write.1) (λ kind. where_is terms IsPtr (λ is_ptr.
    Some (Three (differ write.1 read.1) (differ kind is_ptr) (equal place write.2)))))) (as_sel term)

-- Sel(U, b), U = Upd(S, a, v):  a == b, Sel(U, b) == Sel(S, b)
abbrev pub read_before : List Term → ℕ → Term → Option Instance
read_before terms place term =
    option_and_then (λ read. write_at terms read.0 (λ write. where_is terms (Sel write.0 read.1) (λ before.
    Some (Two (equal write.1 read.1) (equal place before))))) (as_sel term)

-- U = Upd(S, a, v):  v != Sel(S, a), U == S
abbrev pub write_nothing_new : List Term → ℕ → Term → Option Instance
write_nothing_new terms place term =
    option_and_then (λ write. where_is terms (Sel write.0 write.1) (λ held.
    Some (Two (differ write.2 held) (equal place write.0)))) (as_upd term)

-- ---- kinds

-- the kind of a term, as a schema says it
abbrev pub number_kind : Term → Option Term
number_kind (Num number) = Some IsNum
number_kind _ = None

abbrev pub constant_kind : Term → Option Term
constant_kind (Cst meta) = Some IsNum
constant_kind _ = None

abbrev pub address_kind : Term → Option Term
address_kind (Addr meta) = Some IsPtr
address_kind _ = None

abbrev pub operation_kind : Term → Option Term
operation_kind (Op op left right) = Some IsNum
operation_kind _ = None

-- Kind(t), where the schema says the kind of t:  Kind(t) == it
abbrev pub kind_of : (Term → Option Term) → List Term → ℕ → Term → Option Instance
kind_of kind terms place term =
    option_and_then (λ value. option_and_then (λ sort. where_is terms sort (λ is. Some (One (equal place is))))
    (option_and_then kind (slice_get terms value))) (as_kind term)

-- once:  IsNum != IsPtr
abbrev pub kinds_differ : List Term → Option Instance
kinds_differ terms = where_is terms IsNum (λ is_num. where_is terms IsPtr (λ is_ptr. Some (One (differ is_num is_ptr))))

-- ---- numbers

-- Num(c), later Num(d):  Num(c) != Num(d)
abbrev pub numbers_differ : ℕ → ℕ → Term → Option Instance
numbers_differ place later term =
    option_and_then (λ number. if nat_lt place later then Some (One (differ place later)) else None) (as_num term)

-- the number that an operator makes of two
abbrev pub number_in : Value → ℤ
number_in (ANumber number) = number
number_in (APointer location) = pos 0

abbrev pub result_of : Operator → ℤ → ℤ → ℤ
result_of op left right = number_in (total op (ANumber left) (ANumber right))

-- Op(op, t, u), Num(c), Num(d), with Num(c op d):  t != Num(c), u != Num(d), o == Num(c op d)
abbrev pub computed : List Term → ℕ → Operator × ℕ × ℕ → ℕ → ℤ → ℕ → Term → Option Instance
computed terms place operation left c right term =
    option_and_then (λ d. where_is terms (Num (result_of operation.0 c d)) (λ result.
    Some (Three (differ operation.1 left) (differ operation.2 right) (equal place result)))) (as_num term)

-- Op(op, t, u):  u != Num(n), Kind(t) != IsNum, o == t
abbrev pub unit_on_the_right : Operator → ℤ → List Term → ℕ → Term → Option Instance
unit_on_the_right op unit terms place term =
    option_and_then (λ parts. where_is terms (Num unit) (λ number. where_is terms (Kind parts.0) (λ kind. where_is terms IsNum (λ is_num.
    Some (Three (differ parts.1 number) (differ kind is_num) (equal place parts.0)))))) (operands op term)

-- Op(op, t, u):  t != Num(n), Kind(u) != IsNum, o == u
abbrev pub unit_on_the_left : Operator → ℤ → List Term → ℕ → Term → Option Instance
unit_on_the_left op unit terms place term =
    option_and_then (λ parts. where_is terms (Num unit) (λ number. where_is terms (Kind parts.1) (λ kind. where_is terms IsNum (λ is_num.
    Some (Three (differ parts.0 number) (differ kind is_num) (equal place parts.1)))))) (operands op term)

-- Op(Mul, t, u):  u != Num(0), o == Num(0)
abbrev pub zero_on_the_right : List Term → ℕ → Term → Option Instance
zero_on_the_right terms place term =
    option_and_then (λ parts. where_is terms (Num (pos 0)) (λ zero.
    Some (Two (differ parts.1 zero) (equal place zero)))) (operands Mul term)

-- Op(Mul, t, u):  t != Num(0), o == Num(0)
abbrev pub zero_on_the_left : List Term → ℕ → Term → Option Instance
zero_on_the_left terms place term =
    option_and_then (λ parts. where_is terms (Num (pos 0)) (λ zero.
    Some (Two (differ parts.0 zero) (equal place zero)))) (operands Mul term)

-- Op(op, t, u):  t != u, o == Num(n)
abbrev pub same_operands : Operator → ℤ → List Term → ℕ → Term → Option Instance
same_operands op result terms place term =
    option_and_then (λ parts. where_is terms (Num result) (λ number.
    Some (Two (differ parts.0 parts.1) (equal place number)))) (operands op term)

-- Op(Equal, t, u):  t == u, o == Num(0)
abbrev pub different_operands : List Term → ℕ → Term → Option Instance
different_operands terms place term =
    option_and_then (λ parts. where_is terms (Num (pos 0)) (λ zero.
    Some (Two (equal parts.0 parts.1) (equal place zero)))) (operands Equal term)

-- the order of the operands does not matter
abbrev pub commutes : Operator → Bool
commutes Add = true
commutes Sub = false
commutes Mul = true
commutes Less = false
commutes Equal = true

-- Op(op, t, u), later Op(op, u, t), op one of Add, Mul, Equal:  o == the later
abbrev pub other_order : List Term → ℕ → Term → Option Instance
other_order terms place term =
    option_and_then (λ parts. if commutes parts.0
    then where_is terms (Op parts.0 parts.2 parts.1) (λ later. if nat_lt place later then Some (One (equal place later)) else None)
    else None) (as_op term)

-- ---- what no cell holds

-- Una(S, a), Sel(S, b) with the same S:  Una(S, a) != Yes, Sel(S, b) != a
abbrev pub unheld_unread : List Term → ℕ → ℕ × ℕ → ℕ → ℕ × ℕ → Option Instance
unheld_unread terms place unheld at read =
    if read.0 == unheld.0 then where_is terms Yes (λ yes'. Some (Two (differ place yes') (differ at unheld.1))) else None

-- Una(U, b), U = Upd(S, a, v):  Una(S, b) != Yes, v == b, Una(U, b) == Yes
abbrev pub unheld_after : List Term → ℕ → Term → Option Instance
unheld_after terms place term =
    option_and_then (λ unheld. write_at terms unheld.0 (λ write. where_is terms (Una write.0 unheld.1) (λ before. where_is terms Yes (λ yes'.
    Some (Three (differ before yes') (equal write.2 unheld.1) (equal place yes')))))) (as_una term)

-- ---- tables

-- all the schemas in order
abbrev pub all_schemas : List Axiom
all_schemas = A1 ∷ A2 ∷ A3 ∷ A4 ∷ A5 ∷ A6 ∷ A7 ∷ A8 ∷ A9 ∷ A10 ∷ A11 ∷ A12 ∷ A13 ∷ A14 ∷ A15 ∷ A16 ∷ A17 ∷ A18 ∷ A19 ∷ A20 ∷ A21 ∷ A22 ∷ A23 ∷ A24 ∷ []

-- what a schema gives for one term of the list, with its place
abbrev pub single : Axiom → List Term → ℕ → Term → Option Instance
single A1 = read_back
single A2 = read_before
single A3 = write_nothing_new
single A4 = kind_of number_kind
single A5 = kind_of constant_kind
single A6 = kind_of address_kind
single A7 = kind_of operation_kind
single A11 = unit_on_the_right Add (pos 0)
single A12 = unit_on_the_left Add (pos 0)
single A13 = unit_on_the_right Sub (pos 0)
single A14 = same_operands Sub (pos 0)
single A15 = unit_on_the_right Mul (pos 1)
single A16 = unit_on_the_left Mul (pos 1)
single A17 = zero_on_the_right
single A18 = zero_on_the_left
single A19 = same_operands Equal (pos 1)
single A20 = different_operands
single A21 = same_operands Less (pos 0)
single A22 = other_order
single A24 = unheld_after
single _ = λ terms place term. None

-- what is made of each term of a list, the first of which has this place
abbrev pub each_from : {X : Type 0} → ℕ → List Term → (ℕ → Term → List X) → List X
each_from place [] make = []
each_from place (term ∷ terms) make = make place term ++ each_from (place + 1) terms make

abbrev pub each : {X : Type 0} → List Term → (ℕ → Term → List X) → List X
each terms make = each_from 0 terms make

-- what is made of what there may be
abbrev pub of_some : {A X : Type 0} → Option A → (A → List X) → List X
of_some found make = option_map_or make found []

-- the instances of the schemas that name two numbers, an operator and two numbers, or an `Una` and a `Sel`
abbrev pub number_pairs : List Term → ℕ → Term → List Clause
number_pairs terms place term =
    of_some (as_num term) (λ number. each terms (λ later other. clauses_of (numbers_differ place later other)))

abbrev pub computed_with : List Term → ℕ → Operator × ℕ × ℕ → ℕ → Term → List Clause
computed_with terms place operation left term =
    of_some (as_num term) (λ c. each terms (λ right other. clauses_of (computed terms place operation left c right other)))

abbrev pub computations : List Term → ℕ → Term → List Clause
computations terms place term = of_some (as_op term) (λ operation. each terms (computed_with terms place operation))

abbrev pub reads_of_unheld : List Term → ℕ → Term → List Clause
reads_of_unheld terms place term =
    of_some (as_una term) (λ unheld. each terms (λ at other. of_some (as_sel other) (λ read. clauses_of (unheld_unread terms place unheld at read))))

-- the instances of a schema over a list, by the places of the terms that it names, from the first
abbrev pub row : List Term → Axiom → List Clause
row terms A8 = clauses_of (kinds_differ terms)
row terms A9 = each terms (number_pairs terms)
row terms A10 = each terms (computations terms)
row terms A23 = each terms (reads_of_unheld terms)
row terms schema = each terms (λ place term. clauses_of (single schema terms place term))

-- the instances of the schemas in order
abbrev pub instances_of : List Axiom → List Term → List Clause
instances_of schemas terms = flat_map (row terms) schemas
