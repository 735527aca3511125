-- Chains of the places whose terms may be congruent.
use Rattle.std.proofs.Common.{◌≡◌, ℕ, true, ◌<◌, ◌+◌, ◌%◌, List, Some, None, length, slice_get, slice_index, arith, refl, ap, sym, subst, ◌∙◌, inl, inr, get_or, get_or-set_same, get_or-set_other}
use Rattle.std.specs.Prelude.{slice_set}
use Rattle.std.specs.Option.{option_map, option_and_then}
use Rattle.std.proofs.lemmas.Bool.{cases_order, cases_eq}
use Rattle.std.proofs.lemmas.Option.{slice_get-get_or, same_Some}
use Rattle.rh_term.specs.declared.term.Term.{Term}
use Rattle.rh_term.specs.Partition.{Congruent, joined, alone, sel, upd, op, kind, una}
use Rattle.rh_term.specs.Term.{IsTermList}
use Rattle.rh_classes.specs.declared.chains.TheConstants.{BUCKETS}
use Rattle.rh_classes.specs.Chain.{AreChained, AreLinked, IsAlike, IsNew, IsReached, Leads, bucket_at, bucket_of, key_of}
use Rattle.rh_classes.specs.Merge.{AgreesBefore}
use Rattle.rh_classes.proofs.Joining.{joined-equal}
use Rattle.rh_classes.proofs.Symmetry.{Congruent-sym, Congruent-trans, joined-sym, joined-trans}

module _ (labels : List ℕ) where
  at : ℕ → ℕ
  at place = slice_index labels place

  -- congruent terms have one key
  pub key_same : {t u : Term} → Congruent (joined labels) t u → key_of labels t ≡ key_of labels u
  key_same alone = refl
  key_same (sel {s} {s'} {a} {a'} p q) =
      let e : slice_index labels s ≡ slice_index labels s' = joined-equal labels s s' p in
      let f : slice_index labels a ≡ slice_index labels a' = joined-equal labels a a' q in
      cc
  key_same (upd {s} {s'} {a} {a'} {v} {v'} p q r) =
      let e : slice_index labels s ≡ slice_index labels s' = joined-equal labels s s' p in
      let f : slice_index labels a ≡ slice_index labels a' = joined-equal labels a a' q in
      let g : slice_index labels v ≡ slice_index labels v' = joined-equal labels v v' r in
      cc
  key_same (op {o} {t} {t'} {u} {u'} p q) =
      let e : slice_index labels t ≡ slice_index labels t' = joined-equal labels t t' p in
      let f : slice_index labels u ≡ slice_index labels u' = joined-equal labels u u' q in
      cc
  key_same (kind {t} {t'} p) =
      let e : slice_index labels t ≡ slice_index labels t' = joined-equal labels t t' p in
      cc
  key_same (una {s} {s'} {a} {a'} p q) =
      let e : slice_index labels s ≡ slice_index labels s' = joined-equal labels s s' p in
      let f : slice_index labels a ≡ slice_index labels a' = joined-equal labels a a' q in
      cc

  -- a term without parts is congruent to itself alone
  pub leaf_same : {t u : Term} → Congruent (joined labels) t u → bucket_of labels t ≡ None → t ≡ u
  leaf_same alone e = refl
  leaf_same (sel p q) e = absurd cc
  leaf_same (upd p q r) e = absurd cc
  leaf_same (op p q) e = absurd cc
  leaf_same (kind p) e = absurd cc
  leaf_same (una p q) e = absurd cc

module _ (terms : List Term) (labels : List ℕ) where
  -- the bucket at a place is that of its term
  pub bucket_read : (place : ℕ) (t : Term) → slice_get terms place ≡ Some t → bucket_at terms labels place ≡ bucket_of labels t
  bucket_read place t read = ap (option_and_then (bucket_of labels)) read

  pub bucket_here : (place : ℕ) (d : Term) → place < length terms → bucket_at terms labels place ≡ bucket_of labels (get_or terms place d)
  bucket_here place d within = bucket_read place (get_or terms place d) (slice_get-get_or terms place d within)

  bucket_same : (i j : ℕ) (t u : Term) → slice_get terms i ≡ Some t → slice_get terms j ≡ Some u → Congruent (joined labels) t u
      → bucket_at terms labels i ≡ bucket_at terms labels j
  bucket_same i j t u at at' h =
      bucket_read i t at ∙ ap (option_map (λ key. key % BUCKETS)) (key_same labels h) ∙ sym (bucket_read j u at')

  -- at first no place is in a chain
  pub emptied : (heads links : List ℕ) → ((k : ℕ) → k < length heads → slice_index heads k ≡ 0) → length heads ≡ BUCKETS → AreChained terms labels heads links 0
  emptied heads links clear long = record {
    from_head = λ bucket below. record {
      within = omega (arith, clear bucket (omega arith));
      own = λ place e. absurd (omega (arith, clear bucket (omega arith)));
      last = λ place from below _. absurd (omega arith);
    };
    from_link = λ place bucket below _. absurd (omega arith);
  }

  -- a place without a bucket leaves the chains as they are
  pub passed_over : (heads links : List ℕ) (place : ℕ) → AreChained terms labels heads links place → bucket_at terms labels place ≡ None
      → AreChained terms labels heads links (place + 1)
  passed_over heads links place chained none = record {
    from_head = λ bucket below. let old = chained.from_head bucket below in record {
      within = omega (arith, old.within);
      own = old.own;
      last = λ p from before is. elim (cases_eq p place) [
        | inl e ↦ absurd (let f : bucket_at terms labels place ≡ Some bucket = subst (λ q. bucket_at terms labels q ≡ Some bucket) e is in cc)
        | inr ne ↦ old.last p from (omega arith) is
      ];
    };
    from_link = λ p bucket before is. elim (cases_eq p place) [
      | inl e ↦ absurd (let f : bucket_at terms labels place ≡ Some bucket = subst (λ q. bucket_at terms labels q ≡ Some bucket) e is in cc)
      | inr ne ↦ chained.from_link p bucket (omega arith) is
    ];
  }

  module _ (heads links : List ℕ) (place bucket : ℕ) (chained : AreChained terms labels heads links place) (here : bucket_at terms labels place ≡ Some bucket)
      (below : bucket < BUCKETS) (long : length heads ≡ BUCKETS) (within : place < length links) where
    abbrev rest : ℕ
    rest = slice_index heads bucket

    abbrev headed : List ℕ
    headed = slice_set heads bucket (place + 1)

    abbrev linked : List ℕ
    linked = slice_set links place rest

    head_leads : (b : ℕ) → b < BUCKETS → Leads terms labels b (place + 1) (slice_index headed b)
    head_leads b small = elim (cases_eq b bucket) [
      | inl e ↦
          let now : slice_index headed b ≡ place + 1 = ap (slice_index headed) e ∙ get_or-set_same heads bucket (place + 1) 0 (omega arith) in
          record {
            within = omega (arith, now);
            own = λ p f. let same : p ≡ place = omega (arith, now) in ap (bucket_at terms labels) same ∙ here ∙ ap Some (sym e);
            last = λ p from before _. absurd (omega (arith, now));
          }
      | inr ne ↦
          let now : slice_index headed b ≡ slice_index heads b = get_or-set_other heads bucket b (place + 1) 0 ne in
          let old = chained.from_head b small in
          record {
            within = omega (arith, now, old.within);
            own = λ p f. old.own p (f ∙ now);
            last = λ p from before is. elim (cases_eq p place) [
              | inl same ↦ ne (same_Some b bucket (sym is ∙ ap (bucket_at terms labels) same ∙ here))
              | inr other ↦ old.last p (omega (arith, now)) (omega arith) is
            ];
          }
    ]

    link_leads : AreLinked terms labels linked (place + 1)
    link_leads p b before is = elim (cases_eq p place) [
      | inl same ↦
          let now : slice_index linked p ≡ rest = ap (slice_index linked) same ∙ get_or-set_same links place rest 0 within in
          let which : bucket ≡ b = same_Some bucket b (sym here ∙ ap (bucket_at terms labels) (sym same) ∙ is) in
          let old : Leads terms labels b place rest = subst (λ c. Leads terms labels c place rest) which (chained.from_head bucket below) in
          subst (λ l. Leads terms labels b p l) (sym now) (subst (λ q. Leads terms labels b q rest) (sym same) old)
      | inr other ↦
          let now : slice_index linked p ≡ slice_index links p = get_or-set_other links place p rest 0 other in
          subst (λ l. Leads terms labels b p l) (sym now) (chained.from_link p b (omega arith) is)
    ]

    -- a place is put at the head of its chain
    pub entered : AreChained terms labels headed linked (place + 1)
    entered = record { from_head = head_leads; from_link = link_leads }

    -- the rest of its chain has all the earlier places that may be congruent
    pub chain_reached : IsReached terms labels place rest
    chain_reached = let leads = chained.from_head bucket below in record {
      within = leads.within;
      own = λ j e. (bucket, leads.own j e, here);
      passed = λ j t u from before at at' h. leads.last j from before (sym (bucket_same place j t u at at' h) ∙ here);
    }

  -- to a place without a bucket none is congruent
  pub leaf_reached : (place : ℕ) → IsTermList terms → bucket_at terms labels place ≡ None → IsReached terms labels place 0
  leaf_reached place list none = record {
    within = omega arith;
    own = λ j e. absurd (omega arith);
    passed = λ j t u from before at at' h.
        let same : t ≡ u = leaf_same labels h (sym (bucket_read place t at) ∙ none) in
        let one : place ≡ j = list.different place j u (at ∙ ap Some same) at' in
        absurd (omega arith);
  }

  -- a link along a chain leads down
  pub leads_down : (links : List ℕ) (place link earlier : ℕ) → IsReached terms labels place link → earlier + 1 ≡ link
      → AreLinked terms labels links place → slice_index links earlier < link
  leads_down links place link earlier reached e linked =
      let found = reached.own earlier e in
      omega (arith, (linked earlier found.0 (omega (arith, reached.within)) found.1).within)

  -- one step along a chain
  pub walked : (links : List ℕ) (place link earlier : ℕ) (term other : Term) → IsReached terms labels place link → earlier + 1 ≡ link
      → AreLinked terms labels links place → slice_get terms place ≡ Some term → slice_get terms earlier ≡ Some other
      → (Congruent (joined labels) term other → ⊥) → IsReached terms labels place (slice_index links earlier)
  walked links place link earlier term other reached e linked at at' differ =
      let found = reached.own earlier e in
      let bucket = found.0 in
      let leads = linked earlier bucket (omega (arith, reached.within)) found.1 in
      record {
        within = omega (arith, leads.within, reached.within);
        own = λ j f. (bucket, leads.own j f, found.2);
        passed = λ j t u from before here there h. elim (cases_order j earlier) [
          | inl same ↦ differ (subst (λ x. Congruent (joined labels) x other) (same_Some t term (sym here ∙ at))
              (subst (λ x. Congruent (joined labels) t x) (same_Some u other (sym there ∙ ap (slice_get terms) same ∙ at')) h))
          | inr apart ↦ elim apart [
            | inl less ↦ leads.last j from less (sym (bucket_same place j t u here there h) ∙ found.2)
            | inr more ↦ reached.passed j t u (omega arith) before here there h
          ]
        ];
      }

  -- where a place agrees with one that its term is congruent to, it agrees with all
  pub agrees_by_one : (place earlier : ℕ) → IsAlike terms labels place earlier → joined labels place earlier ≡ true
      → ((i : ℕ) → i < place → AgreesBefore terms labels i i) → AgreesBefore terms labels place place
  agrees_by_one place earlier like together agree j t u before at at' h =
      let first : t ≡ like.left = same_Some t like.left (sym at ∙ like.left_at) in
      let own : Congruent (joined labels) like.left u = subst (λ x. Congruent (joined labels) x u) first h in
      let back : Congruent (joined labels) like.right like.left = Congruent-sym (joined labels) (joined-sym labels) like.congruent in
      let across : Congruent (joined labels) like.right u = Congruent-trans (joined labels) (joined-trans labels) back own in
      elim (cases_order j earlier) [
        | inl same ↦ subst (λ x. joined labels place x ≡ true) (sym same) together
        | inr apart ↦ elim apart [
          | inl less ↦ joined-trans labels place earlier j together
              (agree earlier like.below j like.right u less like.right_at at' across)
          | inr more ↦ joined-trans labels place earlier j together
              (joined-sym labels j earlier (agree j before earlier u like.right more at' like.right_at
              (Congruent-sym (joined labels) (joined-sym labels) across)))
        ]
      ]

  pub agrees_if_new : (place : ℕ) → IsNew terms labels place 0 → AgreesBefore terms labels place place
  agrees_if_new place new j t u before at at' h = absurd (new j t u (omega arith) before at at' h)
