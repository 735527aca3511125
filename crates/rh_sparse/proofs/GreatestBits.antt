-- Supported sets of bits, and supported sets of numbers.
use Rattle.std.proofs.Common.{ℕ, ◌≡◌, true, ◌&&◌, ◌==◌, List, map, ap, sym, ◌∙◌, eq-eqb}
use Rattle.std.specs.List.{list_any}
use Rattle.std.specs.Prelude.{◌↔◌, IsTrue}
use Rattle.std.proofs.lemmas.Bool.{and_from, and_parts, eqb-true}
use Rattle.rh_ground.proofs.Members.{IsItem, item_of_map}
use Rattle.rh_rows.proofs.GreatestFacts.{supported_by, supporting}
use Rattle.rh_rows.proofs.Items.{each_passes, passes_item, some_item, some_passes}
use Rattle.rh_system.specs.declared.system.Row.{Row}
use Rattle.rh_system.specs.Bits.{BitSet, bits_in}
use Rattle.rh_system.specs.Rows.{IsGreatest, IsInGreatest, IsSupported, supports}
use Rattle.rh_sparse.specs.Candidates.{has_row}
use Rattle.rh_sparse.specs.Sparse.{number_of, numbered, sparse_rows}
use Rattle.rh_sparse.proofs.SparseRows.{candidates_in, in_sparse, same_support, supported_is_candidate, row_of_candidate}

module _ (rows : List Row) where
  -- the numbers of the bits of a set that have rows
  abbrev numbers_in : BitSet → BitSet
  numbers_in set number = list_any (λ (row : Row). (number_of rows row.bit == number) && set row.bit) rows

  module _ (set : BitSet) (supported : IsSupported rows set) where
    candidate : (bit : ℕ) → set bit ≡ true → has_row rows bit ≡ true
    candidate bit is = supported_is_candidate rows set bit (supported bit is)

    number_there : (bit : ℕ) → set bit ≡ true → numbers_in set (number_of rows bit) ≡ true
    number_there bit is =
        let of = row_of_candidate rows bit (candidate bit is) in
        some_passes (λ (row : Row). (number_of rows row.bit == number_of rows bit) && set row.bit) rows of.0 of.1
        (and_from (number_of rows of.0.bit == number_of rows bit) (set of.0.bit) (eq-eqb (number_of rows of.0.bit) (number_of rows bit) (ap (number_of rows) of.2)) (ap set of.2 ∙ is))

    numbers_supported_at : (bit : ℕ) → set bit ≡ true → supports (sparse_rows rows) (numbers_in set) (number_of rows bit) ≡ true
    numbers_supported_at bit is =
        let by = supporting rows set bit (supported bit is) in
        let known = λ (premise : ℕ) (there : IsItem premise by.row.premises). passes_item set by.row.premises premise by.within there in
        supported_by (sparse_rows rows) (numbers_in set) (number_of rows bit) (record {
          row = numbered rows by.row;
          there = in_sparse rows by.row by.there (each_passes (has_row rows) by.row.premises (λ premise there. candidate premise (known premise there)));
          bit_is = ap (number_of rows) by.bit_is;
          within = each_passes (numbers_in set) (map (number_of rows) by.row.premises)
              (λ number there. let found = item_of_map (number_of rows) number by.row.premises there in ap (numbers_in set) found.2 ∙ number_there found.0 (known found.0 found.1));
        })

    numbers_supported : IsSupported (sparse_rows rows) (numbers_in set)
    numbers_supported number is =
        let found = some_item (λ (row : Row). (number_of rows row.bit == number) && set row.bit) rows is in
        let parts = and_parts (number_of rows found.0.bit == number) (set found.0.bit) found.2 in
        ap (supports (sparse_rows rows) (numbers_in set)) (sym (eqb-true (number_of rows found.0.bit) number parts.0)) ∙ numbers_supported_at found.0.bit parts.1

  candidates_supported : (set : BitSet) → IsSupported (sparse_rows rows) set → IsSupported rows (candidates_in rows set)
  candidates_supported set supported bit is =
      let parts = and_parts (has_row rows bit) (set (number_of rows bit)) is in
      sym (same_support rows set bit parts.0) ∙ supported (number_of rows bit) parts.1

  pub into_sparse : (bit : ℕ) → IsInGreatest rows bit → IsTrue (has_row rows bit) × IsInGreatest (sparse_rows rows) (number_of rows bit)
  into_sparse bit is = (candidate is.0 is.1 bit is.2, (numbers_in is.0, numbers_supported is.0 is.1, number_there is.0 is.1 bit is.2))

  pub from_sparse : (bit : ℕ) → IsTrue (has_row rows bit) → IsInGreatest (sparse_rows rows) (number_of rows bit) → IsInGreatest rows bit
  from_sparse bit has is = (candidates_in rows is.0, candidates_supported is.0 is.1, and_from (has_row rows bit) (is.0 (number_of rows bit)) has is.2)

  -- words of bits whose numbers stand in words that are Greatest of the sparse rows
  pub greatest_expanded : (words numbers : List ℕ) → ((bit : ℕ) → bits_in words bit ≡ candidates_in rows (bits_in numbers) bit) → IsGreatest (sparse_rows rows) numbers → IsGreatest rows words
  greatest_expanded words numbers are greatest bit = (
    (λ stands. let parts = and_parts (has_row rows bit) (bits_in numbers (number_of rows bit)) (sym (are bit) ∙ stands) in
        from_sparse bit parts.0 ((greatest (number_of rows bit)).0 parts.1)),
    (λ is. let sparse = into_sparse bit is in are bit ∙ and_from (has_row rows bit) (bits_in numbers (number_of rows bit)) sparse.0 ((greatest (number_of rows bit)).1 sparse.1)),
  )

pub greatest_is_sparse : (rows : List Row) (bit : ℕ) → IsInGreatest rows bit ↔ (IsTrue (has_row rows bit) × IsInGreatest (sparse_rows rows) (number_of rows bit))
greatest_is_sparse rows bit = (into_sparse rows bit, λ both. from_sparse rows bit both.0 both.1)
