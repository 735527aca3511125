-- Which rows are sparse rows, and what they support.
use Rattle.std.proofs.Common.{ℕ, ◌≡◌, ◌*◌, ◌<◌, Bool, true, false, cond, ◌&&◌, ◌==◌, List, [], ◌∷◌, map, length, inl, inr, refl, ap, sym, ◌∙◌, subst, arith, eq-eqb}
use Rattle.std.specs.List.{filter, list_all}
use Rattle.std.specs.Prelude.{IsTrue}
use Rattle.std.proofs.lemmas.Bool.{and_from, and_parts, eqb-true}
use Rattle.rh_ground.proofs.Members.{IsItem, item_of_map}
use Rattle.rh_rows.proofs.GreatestFacts.{supported_by, supporting}
use Rattle.rh_rows.proofs.Items.{all_of_items, each_passes, in_map, item_has, passes_item, some_item, some_passes}
use Rattle.rh_system.proofs.Supports.{bit_inside}
use Rattle.rh_system.specs.declared.system.Row.{Row}
use Rattle.rh_system.specs.Bits.{BitSet, bits_in}
use Rattle.rh_system.specs.Rows.{IsCovered, supports}
use Rattle.rh_sparse.specs.Candidates.{has_row}
use Rattle.rh_sparse.specs.Sparse.{candidate_count, is_kept, number_of, numbered, sparse_full, sparse_rows}
use Rattle.rh_sparse.proofs.FullEdge.{full_below}
use Rattle.rh_rank.proofs.Ranks.{one_rank, rank_above}

-- what a filter keeps
kept_item : {X : Type 0} (test : X → Bool) (x : X) (xs : List X) → IsItem x (filter test xs) → IsItem x xs × (test x ≡ true)
kept_item test x [] there = absurd there
kept_item {X} test x (y ∷ ys) there =
    elim (test y) as (λ b. test y ≡ b → IsItem x (cond b (y ∷ filter test ys) (filter test ys)) → IsItem x (y ∷ ys) × (test x ≡ true)) [
      | true ↦ λ passes item. elim item as (λ _. IsItem x (y ∷ ys) × (test x ≡ true)) [
        | inl same ↦ (inl same, ap test same ∙ passes)
        | inr later ↦ let rest = kept_item test x ys later in (inr rest.0, rest.1)
      ]
      | false ↦ λ fails item. let rest = kept_item test x ys item in (inr rest.0, rest.1)
    ] refl there

keeps_item : {X : Type 0} (test : X → Bool) (x : X) (xs : List X) → IsItem x xs → test x ≡ true → IsItem x (filter test xs)
keeps_item test x [] there passes = absurd there
keeps_item {X} test x (y ∷ ys) (inl same) passes =
    subst (λ b. IsItem x (cond b (y ∷ filter test ys) (filter test ys))) (sym passes ∙ ap test same) (inl same)
keeps_item {X} test x (y ∷ ys) (inr later) passes =
    let rest = keeps_item test x ys later passes in
    elim (test y) as (λ b. IsItem x (cond b (y ∷ filter test ys) (filter test ys))) [ true ↦ inr rest | false ↦ rest ]

-- tests that hold together are the same
pub same_test : (a b : Bool) → (a ≡ true → b ≡ true) → (b ≡ true → a ≡ true) → a ≡ b
same_test true b into out = sym (into refl)
same_test false true into out = out refl
same_test false false into out = refl

module _ (rows : List Row) where
  pub row_is_candidate : (row : Row) → IsItem row rows → has_row rows row.bit ≡ true
  row_is_candidate row there = some_passes (λ (other : Row). other.bit == row.bit) rows row there (eq-eqb row.bit row.bit refl)

  pub row_of_candidate : (bit : ℕ) → has_row rows bit ≡ true → (row : Row) × IsItem row rows × (row.bit ≡ bit)
  row_of_candidate bit has = let found = some_item (λ (row : Row). row.bit == bit) rows has in (found.0, found.1, eqb-true found.0.bit bit found.2)

  pub supported_is_candidate : (set : BitSet) (bit : ℕ) → supports rows set bit ≡ true → has_row rows bit ≡ true
  supported_is_candidate set bit is = let by = supporting rows set bit is in subst (λ b. has_row rows b ≡ true) by.bit_is (row_is_candidate by.row by.there)

  pub in_sparse : (row : Row) → IsItem row rows → is_kept rows row ≡ true → IsItem (numbered rows row) (sparse_rows rows)
  unfolding sparse_rows
  in_sparse row there kept = in_map (numbered rows) row (filter (is_kept rows) rows) (keeps_item (is_kept rows) row rows there kept)

  -- the row that a sparse row is made from
  pub record Source (row : Row) : Type 0 where
    pub source : Row
    pub there : IsItem source rows
    pub kept : is_kept rows source ≡ true
    pub is : row ≡ numbered rows source

  pub out_of_sparse : (row : Row) → IsItem row (sparse_rows rows) → Source row
  unfolding sparse_rows
  out_of_sparse row there =
      let found = item_of_map (numbered rows) row (filter (is_kept rows) rows) there in
      let stood = kept_item (is_kept rows) found.0 rows found.1 in
      record { source = found.0; there = stood.0; kept = stood.1; is = found.2 }

  -- the candidates whose numbers are in a set
  abbrev pub candidates_in : BitSet → BitSet
  candidates_in set bit = has_row rows bit && set (number_of rows bit)

  module _ (set : BitSet) (bit : ℕ) (candidate : has_row rows bit ≡ true) where
    into_support : supports (sparse_rows rows) set (number_of rows bit) ≡ true → supports rows (candidates_in set) bit ≡ true
    into_support is =
        let by = supporting (sparse_rows rows) set (number_of rows bit) is in
        let of = out_of_sparse by.row by.there in
        let number : number_of rows of.source.bit ≡ number_of rows bit = ap (λ (row : Row). row.bit) (sym of.is) ∙ by.bit_is in
        let within = ap (λ (row : Row). list_all set row.premises) (sym of.is) ∙ by.within in
        supported_by rows (candidates_in set) bit (record {
          row = of.source;
          there = of.there;
          bit_is = one_rank (has_row rows) of.source.bit bit (row_is_candidate of.source of.there) candidate number;
          within = each_passes (candidates_in set) of.source.premises
              (λ premise there. and_from (has_row rows premise) (set (number_of rows premise)) (passes_item (has_row rows) of.source.premises premise of.kept there)
              (passes_item set (map (number_of rows) of.source.premises) (number_of rows premise) within (in_map (number_of rows) premise of.source.premises there)));
        })

    out_of_support : supports rows (candidates_in set) bit ≡ true → supports (sparse_rows rows) set (number_of rows bit) ≡ true
    out_of_support is =
        let by = supporting rows (candidates_in set) bit is in
        let parts = λ (premise : ℕ) (there : IsItem premise by.row.premises). and_parts (has_row rows premise) (set (number_of rows premise)) (passes_item (candidates_in set) by.row.premises premise by.within there) in
        supported_by (sparse_rows rows) set (number_of rows bit) (record {
          row = numbered rows by.row;
          there = in_sparse by.row by.there (each_passes (has_row rows) by.row.premises (λ premise there. (parts premise there).0));
          bit_is = ap (number_of rows) by.bit_is;
          within = each_passes set (map (number_of rows) by.row.premises)
              (λ number there. let found = item_of_map (number_of rows) number by.row.premises there in ap set found.2 ∙ (parts found.0 found.1).1);
        })

    -- sparse rows support the number of a candidate exactly if the rows support the candidate
    pub same_support : supports (sparse_rows rows) set (number_of rows bit) ≡ supports rows (candidates_in set) bit
    same_support = same_test (supports (sparse_rows rows) set (number_of rows bit)) (supports rows (candidates_in set) bit) into_support out_of_support

-- a candidate is a bit of full words that cover the rows, and its number is below their count
pub candidate_below : (full : List ℕ) (rows : List Row) → IsCovered full rows → (bit : ℕ) → has_row rows bit ≡ true → bit < 64 * length full
candidate_below full rows covered bit has =
    let of = row_of_candidate rows bit has in
    let inside = bit_inside full of.0.bit (item_has (λ (row : Row). IsTrue (bits_in full row.bit)) rows of.0 covered of.1) in
    let same = of.2 in
    omega (arith, inside, same)

pub number_below : (full : List ℕ) (rows : List Row) → IsCovered full rows → (bit : ℕ) → has_row rows bit ≡ true → number_of rows bit < candidate_count full rows
number_below full rows covered bit has = rank_above (has_row rows) bit (64 * length full) has (candidate_below full rows covered bit has)

pub sparse_covered : (full : List ℕ) (rows : List Row) → IsCovered full rows → IsCovered (sparse_full full rows) (sparse_rows rows)
unfolding sparse_full
sparse_covered full rows covered =
    all_of_items (λ (row : Row). IsTrue (bits_in (sparse_full full rows) row.bit)) (sparse_rows rows)
    (λ row there. let of = out_of_sparse rows row there in
    subst (λ (r : Row). IsTrue (bits_in (sparse_full full rows) r.bit)) (sym of.is)
    (full_below (candidate_count full rows) (number_of rows of.source.bit) (number_below full rows covered of.source.bit (row_is_candidate rows of.source of.there))))
