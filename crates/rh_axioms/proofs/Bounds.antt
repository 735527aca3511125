-- How many instances there are over a list of terms, and how many literals each has.
use Rattle.std.proofs.Common.{◌≡◌, ℕ, ◌+◌, ◌*◌, ◌^◌, ◌<◌, ◌≤◌, List, [], ◌∷◌, Option, Some, None, length, arith, length-append}
use Rattle.std.specs.List.{All, AllByRecursion}
use Rattle.std.proofs.Math.Nat.{mul-le-mul}
use Rattle.std.proofs.lemmas.List.Elements.{All-from_recursion}
use Rattle.rh_list.proofs.Appended.{joined}
use Rattle.rh_term.specs.declared.clause.Clause.{Clause}
use Rattle.rh_term.specs.declared.term.Term.{Term}
use Rattle.rh_axioms.specs.declared.instance.Instance.{Instance}
use Rattle.rh_axioms.specs.declared.instance.Instance.TheVariants.{One, Two, Three}
use Rattle.rh_axioms.specs.declared.table.Axiom.{Axiom}
use Rattle.rh_axioms.specs.declared.table.Axiom.TheVariants.{A8, A9, A10, A23}
use Rattle.rh_axioms.specs.Instance.{clauses_of}
use Rattle.rh_axioms.specs.Parts.{as_num, as_op, as_sel, as_una}
use Rattle.rh_axioms.specs.Rows.{all_schemas, computations, computed, computed_with, each, each_from, instances_of, kinds_differ, number_pairs, numbers_differ, of_some, reads_of_unheld, row, single, unheld_unread}

-- ---- how many

clauses_few : (found : Option Instance) → length (clauses_of found) ≤ 1
clauses_few None = omega arith
clauses_few (Some instance) = omega arith

of_some_few : {A : Type 0} (found : Option A) (make : A → List Clause) (most : ℕ) → ((a : A) → length (make a) ≤ most)
    → length (of_some found make) ≤ most
of_some_few None make most h = omega arith
of_some_few (Some a) make most h = h a

each_from_few : (terms : List Term) (at : ℕ) (make : ℕ → Term → List Clause) (most : ℕ) → ((place : ℕ) (term : Term) → length (make place term) ≤ most)
    → length (each_from at terms make) ≤ length terms * most
each_from_few [] at make most h = omega arith
each_from_few (term ∷ terms) at make most h =
    let here = h at term in
    let others = each_from_few terms (at + 1) make most h in
    omega (arith, length-append (make at term) (each_from (at + 1) terms make), here, others)

each_few : (terms : List Term) (make : ℕ → Term → List Clause) (most : ℕ) → ((place : ℕ) (term : Term) → length (make place term) ≤ most)
    → length (each terms make) ≤ length terms * most
each_few terms make most h = each_from_few terms 0 make most h

-- the most instances of a schema over n terms
abbrev pub most_of : ℕ → Axiom → ℕ
most_of n A8 = 1
most_of n A9 = n * (n * 1)
most_of n A10 = n * (n * (n * 1))
most_of n A23 = n * (n * 1)
most_of n schema = n * 1

abbrev pub most_in_all : ℕ → List Axiom → ℕ
most_in_all n [] = 0
most_in_all n (schema ∷ schemas) = most_of n schema + most_in_all n schemas

module _ (terms : List Term) where
  number_pairs_few : (place : ℕ) (term : Term) → length (number_pairs terms place term) ≤ length terms * 1
  number_pairs_few place term =
      of_some_few (as_num term) _ (length terms * 1) (λ number.
      each_few terms _ 1 (λ later other. clauses_few (numbers_differ place later other)))

  computations_few : (place : ℕ) (term : Term) → length (computations terms place term) ≤ length terms * (length terms * 1)
  computations_few place term =
      of_some_few (as_op term) _ (length terms * (length terms * 1)) (λ operation.
      each_few terms (computed_with terms place operation) (length terms * 1) (λ left number.
      of_some_few (as_num number) _ (length terms * 1) (λ c.
      each_few terms _ 1 (λ right other. clauses_few (computed terms place operation left c right other)))))

  reads_few : (place : ℕ) (term : Term) → length (reads_of_unheld terms place term) ≤ length terms * 1
  reads_few place term =
      of_some_few (as_una term) _ (length terms * 1) (λ unheld.
      each_few terms _ 1 (λ at other.
      of_some_few (as_sel other) _ 1 (λ read. clauses_few (unheld_unread terms place unheld at read))))

  row_few : (schema : Axiom) → length (row terms schema) ≤ most_of (length terms) schema
  row_few A8 = clauses_few (kinds_differ terms)
  row_few A9 = each_few terms (number_pairs terms) (length terms * 1) number_pairs_few
  row_few A10 = each_few terms (computations terms) (length terms * (length terms * 1)) computations_few
  row_few A23 = each_few terms (reads_of_unheld terms) (length terms * 1) reads_few
  row_few schema = each_few terms (λ place term. clauses_of (single schema terms place term)) 1 (λ place term. clauses_few (single schema terms place term))

  rows_few : (schemas : List Axiom) → length (instances_of schemas terms) ≤ most_in_all (length terms) schemas
  rows_few [] = omega arith
  rows_few (schema ∷ schemas) =
      let joined : length (instances_of (schema ∷ schemas) terms) ≡ length (row terms schema) + length (instances_of schemas terms)
      = length-append (row terms schema) (instances_of schemas terms) in
      omega (arith, joined, row_few schema, rows_few schemas)

  -- over n terms there are at most n * n * n instances of the computed operators, n * n of each schema of two terms, and n of each other
  pub instances_few : length (instances_of all_schemas terms)
      ≤ length terms * (length terms * length terms) + 2 * (length terms * length terms) + 20 * length terms + 1
  instances_few =
      omega (arith, rows_few all_schemas)

few_of : (n count : ℕ) → n ≤ 512 → count ≤ n * (n * n) + 2 * (n * n) + 20 * n + 1 → count < 2 ^ 28
few_of n count few h =
    let squares : n * n ≤ 512 * 512 = mul-le-mul few few in
    let cubes : n * (n * n) ≤ 512 * (512 * 512) = mul-le-mul few squares in
    omega (arith, squares, cubes)

-- over at most 512 terms there are fewer than 2^28
pub instances_below : (terms : List Term) → length terms ≤ 512 → length (instances_of all_schemas terms) < 2 ^ 28
instances_below terms few = few_of (length terms) (length (instances_of all_schemas terms)) few (instances_few terms)

-- ---- how many literals each has

-- the clause has at most three literals
abbrev pub IsShort : Clause → Type 0
IsShort clause = length clause.lits ≤ 3

instance_short : (found : Option Instance) → AllByRecursion IsShort (clauses_of found)
instance_short None = tt
instance_short (Some (One a)) = (omega arith, tt)
instance_short (Some (Two a b)) = (omega arith, tt)
instance_short (Some (Three a b c)) = (omega arith, tt)

of_some_short : {A : Type 0} (found : Option A) (make : A → List Clause) → ((a : A) → AllByRecursion IsShort (make a)) → AllByRecursion IsShort (of_some found make)
of_some_short None make h = tt
of_some_short (Some a) make h = h a

each_short : (terms : List Term) (at : ℕ) (make : ℕ → Term → List Clause) → ((place : ℕ) (term : Term) → AllByRecursion IsShort (make place term))
    → AllByRecursion IsShort (each_from at terms make)
each_short [] at make h = tt
each_short (term ∷ terms) at make h = joined IsShort (make at term) (each_from (at + 1) terms make) (h at term) (each_short terms (at + 1) make h)

module _ (terms : List Term) where
  row_short : (schema : Axiom) → AllByRecursion IsShort (row terms schema)
  row_short A8 = instance_short (kinds_differ terms)
  row_short A9 = each_short terms 0 (number_pairs terms) (λ place term.
      of_some_short (as_num term) _ (λ number. each_short terms 0 _ (λ later other. instance_short (numbers_differ place later other))))
  row_short A10 = each_short terms 0 (computations terms) (λ place term.
      of_some_short (as_op term) _ (λ operation. each_short terms 0 (computed_with terms place operation) (λ left number.
      of_some_short (as_num number) _ (λ c. each_short terms 0 _ (λ right other. instance_short (computed terms place operation left c right other))))))
  row_short A23 = each_short terms 0 (reads_of_unheld terms) (λ place term.
      of_some_short (as_una term) _ (λ unheld. each_short terms 0 _ (λ at other.
      of_some_short (as_sel other) _ (λ read. instance_short (unheld_unread terms place unheld at read)))))
  row_short schema = each_short terms 0 (λ place term. clauses_of (single schema terms place term)) (λ place term. instance_short (single schema terms place term))

  pub rows_short : (schemas : List Axiom) → AllByRecursion IsShort (instances_of schemas terms)
  rows_short [] = tt
  rows_short (schema ∷ schemas) = joined IsShort (row terms schema) (instances_of schemas terms) (row_short schema) (rows_short schemas)

  -- each instance has at most three literals
  pub instances_short : (schemas : List Axiom) → All IsShort (instances_of schemas terms)
  instances_short schemas = All-from_recursion IsShort (instances_of schemas terms) (rows_short schemas)
