-- A model in which each clause is true gives an open partition.
use Rattle.std.proofs.Common.{◌≡◌, ℕ, ◌<◌, Bool, true, false, List, [], ◌∷◌, ◌++◌, length, refl, ap, sym, ◌∙◌}
use Rattle.std.specs.Prelude.{not, ◌||◌, if◌then◌else◌}
use Rattle.std.proofs.lemmas.Bool.{and_from, true_from_ne_false}
use Rattle.std.proofs.lemmas.List.Folds.{list_all-append}
use Rattle.std.proofs.lemmas.Option.{slice_get_within}
use Rattle.rh_term.specs.declared.clause.Lit.{Lit}
use Rattle.rh_term.specs.declared.term.Term.{Term}
use Rattle.rh_term.specs.Clause.{Sameness, is_true_lit, is_true_clause}
use Rattle.rh_term.specs.Laws.{ModelsAreOpen, GoalsHold, labels_in, denial}
use Rattle.rh_term.specs.Model.{Model, Denotation, denotations, denotation_at, denotation_in, alike, agree, same_in}
use Rattle.rh_term.specs.Partition.{IsCongruent, joined}
use Rattle.rh_term.specs.Term.{IsTermList}
use Rattle.rh_term.proofs.Alike.{alike-refl, alike-sym, alike-trans, congruent_alike}
use Rattle.rh_term.proofs.Congruence.{congruent_in}
use Rattle.rh_term.proofs.Known.{known_at}
use Rattle.rh_term.proofs.Labels.{IsEquivalence, labels_partition, joined_is}
use Rattle.rh_term.proofs.Truth.{clauses_same}

agree_equivalence : (known : List Denotation) → IsEquivalence (agree known)
agree_equivalence known = record {
  reflexive = λ i. alike-refl (denotation_at known i);
  symmetric = λ i j h. alike-sym (denotation_at known i) (denotation_at known j) h;
  transitive = λ i j k h l. alike-trans (denotation_at known i) (denotation_at known j) (denotation_at known k) h l;
}

-- terms that are congruent in a model stand for one thing
pub same_congruent : (model : Model) (terms : List Term) → IsTermList terms → IsCongruent terms (same_in model terms)
same_congruent model terms list i j t u at at' h =
    let known = denotations model terms in
    let left : denotation_at known i ≡ denotation_in model known t = known_at model terms list i t at in
    let right : denotation_at known j ≡ denotation_in model known u = known_at model terms list j u at' in
    ap (λ x. alike x (denotation_at known j)) left ∙ ap (alike (denotation_in model known t)) right
    ∙ congruent_alike model known h

pub models_are_open : ModelsAreOpen
models_are_open model terms clauses list within holds =
    let n = length terms in
    let same = same_in model terms in
    let labels = labels_in model terms in
    let is : (i j : ℕ) → i < n → j < n → joined labels i j ≡ same i j = λ i j. joined_is same (agree_equivalence (denotations model terms)) n i j in
    record {
      partition = labels_partition same (agree_equivalence (denotations model terms)) n;
      congruent = λ i j t u at at' h.
          is i j (slice_get_within terms i t at) (slice_get_within terms j u at')
          ∙ same_congruent model terms list i j t u at at'
          (congruent_in terms list (joined labels) same (λ p q a b e. sym (is p q a b) ∙ e) i j t u at at' h);
      all_true = clauses_same n (joined labels) same is clauses within ∙ holds;
    }

denies : (equal holds : Bool) → (if equal then holds else not holds) ≡ false → ((if not equal then holds else not holds) || false) ≡ true
denies true true h = cc
denies true false h = refl
denies false true h = refl
denies false false h = cc

denial_true : (same : Sameness) (goal : Lit) → is_true_lit same goal ≡ false → is_true_clause same (denial goal) ≡ true
denial_true same goal h = denies goal.equal (same goal.left goal.right) h

pub goals_hold : GoalsHold
goals_hold model terms known goal list within none holds =
    let same = same_in model terms in
    true_from_ne_false (is_true_lit same goal) (λ f.
    none (labels_in model terms)
    (models_are_open model terms (known ++ denial goal ∷ []) list within
    (list_all-append (is_true_clause same) known (denial goal ∷ [])
    ∙ and_from _ _ holds (and_from _ _ (denial_true same goal f) refl))))
