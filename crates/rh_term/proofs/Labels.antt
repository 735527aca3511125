-- The labels of an equivalence.
use Rattle.std.proofs.Common.{◌≡◌, ℕ, zero, suc, ◌<◌, ◌≤◌, ◌+◌, ◌==◌, Bool, true, false, slice_index, ap, sym, subst, arith, ◌∙◌, ◌⊎◌, inl, inr}
use Rattle.std.proofs.lemmas.Bool.{cases_Bool, cond-true, cond-false, cases_order, both_ways, eq-eqb, ne_eqb}
use Rattle.std.proofs.lemmas.List.FromFn.{length-map-range_with_len, get_or-map-range_with_len}
use Rattle.rh_term.specs.Clause.{Sameness}
use Rattle.rh_term.specs.Laws.{least, labels_of}
use Rattle.rh_term.specs.Partition.{IsPartition, joined}

pub record IsEquivalence (same : Sameness) : Type 0 where
  pub reflexive : (i : ℕ) → same i i ≡ true
  pub symmetric : (i j : ℕ) → same i j ≡ true → same j i ≡ true
  pub transitive : (i j k : ℕ) → same i j ≡ true → same j k ≡ true → same i k ≡ true

-- what `least` gives: no place before it passes, and it passes or is the one after them
pub record IsLeast (test : ℕ → Bool) (first n found : ℕ) : Type 0 where
  pub after : first ≤ found
  pub within : found ≤ first + n
  pub passes : (found ≡ first + n) ⊎ (test found ≡ true)
  pub before : (k : ℕ) → first ≤ k → k < found → test k ≡ false

pub least_is : (test : ℕ → Bool) (first n : ℕ) → IsLeast test first n (least test first n)
least_is test first zero = record { after = omega arith; within = omega arith; passes = inl (omega arith); before = λ k low high. absurd (omega (arith, low, high)) }
least_is test first (suc n) =
    elim (cases_Bool (test first)) [
      | inl e ↦ subst (IsLeast test first (suc n)) (sym (cond-true (test first) first (least test (first + 1) n) e)) (record {
        after = omega arith;
        within = omega arith;
        passes = inr e;
        before = λ k low high. absurd (omega (arith, low, high));
      })
      | inr e ↦ subst (IsLeast test first (suc n)) (sym (cond-false (test first) first (least test (first + 1) n) e)) (
          let rest = least_is test (first + 1) n in
          record {
            after = omega (arith, rest.after);
            within = omega (arith, rest.within);
            passes = elim rest.passes [ inl h ↦ inl (omega (arith, h)) | inr h ↦ inr h ];
            before = λ k low high. elim (cases_order k first) [
              | inl at ↦ subst (λ x. test x ≡ false) (sym at) e
              | inr other ↦ elim other [ inl below ↦ absurd (omega (arith, low, below)) | inr above ↦ rest.before k (omega (arith, above)) high ]
            ];
          })
    ]

module _ (same : Sameness) (equivalence : IsEquivalence same) where
  -- the label of a place
  abbrev pub label : ℕ → ℕ
  label i = least (λ j. same j i) 0 i

  pub label_is : (i : ℕ) → IsLeast (λ j. same j i) 0 i (label i)
  label_is i = least_is (λ j. same j i) 0 i

  pub label_same : (i : ℕ) → same (label i) i ≡ true
  label_same i = elim (label_is i).passes [
    | inl e ↦ subst (λ x. same x i ≡ true) (sym (e ∙ omega arith)) (equivalence.reflexive i)
    | inr h ↦ h
  ]

  not_before : (i j : ℕ) → same i j ≡ true → label i < label j → ⊥
  not_before i j h before =
      both_ways (same (label i) j) ((label_is j).before (label i) (omega arith) before)
      (equivalence.transitive (label i) i j (label_same i) h)

  pub label_equal : (i j : ℕ) → same i j ≡ true → label i ≡ label j
  label_equal i j h = elim (cases_order (label i) (label j)) [
    | inl e ↦ e
    | inr other ↦ elim other [ inl b ↦ absurd (not_before i j h b) | inr b ↦ absurd (not_before j i (equivalence.symmetric i j h) b) ]
  ]

  pub equal_label : (i j : ℕ) → label i ≡ label j → same i j ≡ true
  equal_label i j e =
      equivalence.transitive i (label j) j
      (subst (λ x. same i x ≡ true) e (equivalence.symmetric (label i) i (label_same i))) (label_same j)

  pub at_label : (n i : ℕ) → i < n → slice_index (labels_of same n) i ≡ label i
  at_label n i h = get_or-map-range_with_len label 0 n i i 0 h (omega arith)

  -- two places have one label where they are one
  pub joined_is : (n i j : ℕ) → i < n → j < n → joined (labels_of same n) i j ≡ same i j
  joined_is n i j h k =
      let e : joined (labels_of same n) i j ≡ (label i == label j) = ap (λ x. x == slice_index (labels_of same n) j) (at_label n i h) ∙ ap (λ x. label i == x) (at_label n j k) in
      elim (cases_Bool (same i j)) [
        | inl t ↦ e ∙ eq-eqb (label i) (label j) (label_equal i j t) ∙ sym t
        | inr f ↦ e ∙ ne_eqb (label i) (label j) (λ q. both_ways (same i j) f (equal_label i j q)) ∙ sym f
      ]

  pub labels_partition : (n : ℕ) → IsPartition n (labels_of same n)
  labels_partition n = record {
    as_long = length-map-range_with_len label 0 n;
    least = λ i h. omega (arith, at_label n i h, (label_is i).within);
    in_class = λ i h.
        let short : label i < n = omega (arith, (label_is i).within, h) in
        ap (slice_index (labels_of same n)) (at_label n i h) ∙ at_label n (label i) short
        ∙ label_equal (label i) i (label_same i) ∙ sym (at_label n i h);
  }
