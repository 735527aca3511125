-- Two classes of a partition are made one.
use Rattle.std.proofs.Common.{◌≡◌, ℕ, ◌<◌, ◌==◌, min, max, true, false, List, slice_index, ap, sym, subst, arith, ◌∙◌, ◌⊎◌, inl, inr}
use Rattle.std.specs.Prelude.{if◌then◌else◌}
use Rattle.std.proofs.lemmas.Bool.{cond-true, cond-false, eqb-true, eq-eqb, eqb-false, ne_eqb, cases_order, cases_eq, cases_lt}
use Rattle.std.proofs.lemmas.List.{get_or-map, length-map}
use Rattle.rh_term.specs.Partition.{IsPartition, joined}
use Rattle.rh_classes.specs.Merge.{Refines, relabelled}
use Rattle.rh_classes.proofs.Counting.{classes, count_fewer}

-- ---- labels of one partition

module _ (n : ℕ) (labels : List ℕ) (partition : IsPartition n labels) where
  pub label_within : (k : ℕ) → k < n → slice_index labels k < n
  label_within k h = omega (arith, partition.least k h, h)

  -- a place and its label are in one class
  pub joined_label : (k : ℕ) → k < n → joined labels k (slice_index labels k) ≡ true
  joined_label k h = eq-eqb (slice_index labels k) (slice_index labels (slice_index labels k)) (sym (partition.in_class k h))

pub joined-equal : (labels : List ℕ) (i j : ℕ) → joined labels i j ≡ true → slice_index labels i ≡ slice_index labels j
joined-equal labels i j h = eqb-true (slice_index labels i) (slice_index labels j) h

pub equal-joined : (labels : List ℕ) (i j : ℕ) → slice_index labels i ≡ slice_index labels j → joined labels i j ≡ true
equal-joined labels i j h = eq-eqb (slice_index labels i) (slice_index labels j) h

pub not_joined : (labels : List ℕ) (i j : ℕ) → joined labels i j ≡ false → slice_index labels i ≡ slice_index labels j → ⊥
not_joined labels i j h = eqb-false (slice_index labels i) (slice_index labels j) h

-- a coarser partition that joins two places has fewer classes
pub fewer_classes : (n : ℕ) (old new : List ℕ) → IsPartition n old → IsPartition n new → Refines n old new
    → (a b : ℕ) → a < n → b < n → joined new a b ≡ true → joined old a b ≡ false → classes new n < classes old n
fewer_classes n old new part part' keeps a b in_a in_b together separate =
    let at = slice_index old in
    let at' = slice_index new in
    let to_label : (k : ℕ) → k < n → at' k ≡ at' (at k)
    = λ k h. joined-equal new k (at k) (keeps k (at k) h (label_within n old part k h) (joined_label n old part k h)) in
    let same : at' (at a) ≡ at' (at b) = sym (to_label a in_a) ∙ joined-equal new a b together ∙ to_label b in_b in
    let roots : (k : ℕ) → k < n → (at' k == k) ≡ true → (at k == k) ≡ true
    = λ k h e. eq-eqb (at k) k (omega (arith, eqb-true (at' k) k e, part.least k h, part'.least (at k) (label_within n old part k h), to_label k h)) in
    let lost : (x y : ℕ) → x < n → y < n → at x ≡ x → at y ≡ y → at' x ≡ at' y → x < y → classes new n < classes old n
    = λ x y in_x in_y root_x root_y e below.
    count_fewer (λ k. at k == k) (λ k. at' k == k) n roots y in_y (eq-eqb (at y) y root_y)
    (ne_eqb (at' y) y (λ q. absurd (omega (arith, q, e, part'.least x in_x, below)))) in
    let in_x : at a < n = label_within n old part a in_a in
    let in_y : at b < n = label_within n old part b in_b in
    elim (cases_order (at a) (at b)) [
      | inl e ↦ absurd (not_joined old a b separate e)
      | inr other ↦ elim other [
        | inl below ↦ lost (at a) (at b) in_x in_y (part.in_class a in_a) (part.in_class b in_b) same below
        | inr above ↦ lost (at b) (at a) in_y in_x (part.in_class b in_b) (part.in_class a in_a) (sym same) above
      ]
    ]

-- ---- the classes of i and j are made one

-- a label of the relabelled list
abbrev new_label : ℕ → ℕ → ℕ → ℕ
new_label high low label = if label == high then low else label

at_high : (high low label : ℕ) → label ≡ high → new_label high low label ≡ low
at_high high low label e = cond-true (label == high) low label (eq-eqb label high e)

elsewhere : (high low label : ℕ) → (label ≡ high → ⊥) → new_label high low label ≡ label
elsewhere high low label ne = cond-false (label == high) low label (ne_eqb label high ne)

-- what holds of two numbers holds of the smaller and of the larger
of_min : (P : ℕ → Type 0) (a b : ℕ) → P a → P b → P (min a b)
of_min P a b p q = elim (cases_lt a b) [
  | inl h ↦ let e : a ≡ min a b = omega (arith, h) in subst P e p
  | inr h ↦ let e : b ≡ min a b = omega (arith, h) in subst P e q
]

of_max : (P : ℕ → Type 0) (a b : ℕ) → P a → P b → P (max a b)
of_max P a b p q = elim (cases_lt a b) [
  | inl h ↦ let e : b ≡ max a b = omega (arith, h) in subst P e q
  | inr h ↦ let e : a ≡ max a b = omega (arith, h) in subst P e p
]

module _ (n : ℕ) (labels : List ℕ) (partition : IsPartition n labels) (i j : ℕ) (in_i : i < n) (in_j : j < n) where
  abbrev at : ℕ → ℕ
  at k = slice_index labels k

  abbrev low : ℕ
  low = min (at i) (at j)

  abbrev high : ℕ
  high = max (at i) (at j)

  abbrev made : List ℕ
  made = relabelled labels i j

  -- what is read of the relabelled list
  reads : (k : ℕ) → k < n → slice_index made k ≡ new_label high low (at k)
  reads k h = get_or-map (new_label high low) labels k 0 0 (omega (arith, h, partition.as_long))

  -- the two labels are places, and their own labels
  root_low : at low ≡ low
  root_low = of_min (λ x. at x ≡ x) (at i) (at j) (partition.in_class i in_i) (partition.in_class j in_j)

  root_high : at high ≡ high
  root_high = of_max (λ x. at x ≡ x) (at i) (at j) (partition.in_class i in_i) (partition.in_class j in_j)

  low_within : low < n
  low_within = of_min (λ x. x < n) (at i) (at j) (label_within n labels partition i in_i) (label_within n labels partition j in_j)

  new_low : new_label high low low ≡ low
  new_low = elim (cases_eq low high) [ inl e ↦ at_high high low low e | inr ne ↦ elsewhere high low low ne ]

  pub made_partition : IsPartition n made
  made_partition = record {
    as_long = length-map labels (new_label high low) ∙ partition.as_long;
    least = λ k h. elim (cases_eq (at k) high) [
      | inl e ↦ let f : new_label high low (at k) ≡ low = at_high high low (at k) e in omega (arith, reads k h, f, e, partition.least k h)
      | inr ne ↦ let f : new_label high low (at k) ≡ at k = elsewhere high low (at k) ne in omega (arith, reads k h, f, partition.least k h)
    ];
    in_class = λ k h. elim (cases_eq (at k) high) [
      | inl e ↦ let f : slice_index made k ≡ low = reads k h ∙ at_high high low (at k) e in
          ap (slice_index made) f ∙ reads low low_within ∙ ap (new_label high low) root_low ∙ new_low ∙ sym f
      | inr ne ↦ let f : slice_index made k ≡ at k = reads k h ∙ elsewhere high low (at k) ne in
          ap (slice_index made) f ∙ reads (at k) (label_within n labels partition k h)
          ∙ ap (new_label high low) (partition.in_class k h) ∙ sym (reads k h)
    ];
  }

  pub made_keeps : Refines n labels made
  made_keeps k l in_k in_l h =
      equal-joined made k l (reads k in_k ∙ ap (new_label high low) (joined-equal labels k l h) ∙ sym (reads l in_l))

  both_low : (k : ℕ) → k < n → (at k ≡ low) ⊎ (at k ≡ high) → slice_index made k ≡ low
  both_low k h which = elim which [
    | inl e ↦ reads k h ∙ ap (new_label high low) e ∙ new_low
    | inr e ↦ reads k h ∙ at_high high low (at k) e
  ]

  of_two : (a b : ℕ) → (a ≡ min a b) ⊎ (a ≡ max a b)
  of_two a b = elim (cases_lt a b) [ inl h ↦ inl (omega (arith, h)) | inr h ↦ inr (omega (arith, h)) ]

  of_other : (a b : ℕ) → (b ≡ min a b) ⊎ (b ≡ max a b)
  of_other a b = elim (cases_lt a b) [ inl h ↦ inr (omega (arith, h)) | inr h ↦ inl (omega (arith, h)) ]

  pub made_joins : joined made i j ≡ true
  made_joins =
      equal-joined made i j
      (both_low i in_i (of_two (at i) (at j)) ∙ sym (both_low j in_j (of_other (at i) (at j))))

  -- nothing else is joined: what keeps the classes together and joins the two places keeps the made classes together
  pub made_least : (other : List ℕ) → Refines n labels other → joined other i j ≡ true → Refines n made other
  made_least other keeps together k l in_k in_l h =
      let to : ℕ → ℕ = slice_index other in
      let to_label : (m : ℕ) → m < n → to (at m) ≡ to m
      = λ m before. sym (joined-equal other m (at m) (keeps m (at m) before (label_within n labels partition m before) (joined_label n labels partition m before))) in
      let second : to (at j) ≡ to i = to_label j in_j ∙ sym (joined-equal other i j together) in
      let to_low : to low ≡ to i = of_min (λ x. to x ≡ to i) (at i) (at j) (to_label i in_i) second in
      let to_high : to high ≡ to i = of_max (λ x. to x ≡ to i) (at i) (at j) (to_label i in_i) second in
      let follows : (m : ℕ) → m < n → to m ≡ to (slice_index made m)
      = λ m before. elim (cases_eq (at m) high) [
        | inl e ↦ sym (to_label m before) ∙ ap to e ∙ to_high ∙ sym to_low ∙ ap to (sym (reads m before ∙ at_high high low (at m) e))
        | inr ne ↦ sym (to_label m before) ∙ ap to (sym (reads m before ∙ elsewhere high low (at m) ne))
      ] in
      equal-joined other k l (follows k in_k ∙ ap to (joined-equal made k l h) ∙ sym (follows l in_l))
