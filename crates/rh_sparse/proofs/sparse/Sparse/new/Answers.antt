use Rattle.std.proofs.Common.{ℕ, List, length, ap, sym, ◌∙◌, arith, ◌≡◌}
use Rattle.std.proofs.lemmas.List.Sums.{list_all-from_AllPass}
use Rattle.rh_layout.specs.Bits.{width_of}
use Rattle.rh_layout.proofs.EdgeWords.{words_counted}
use Rattle.rh_system.specs.Bits.{bits_in}
use Rattle.rh_system.specs.Covered.{covered_by_all}
use Rattle.rh_rows.specs.declared.ground.Ground.{Ground}
use Rattle.rh_sparse.specs.Candidates.{has_row}
use Rattle.rh_sparse.specs.Parts.{AreCandidates, full_in, rows_in}
use Rattle.rh_sparse.specs.Sparse.{sparse_full, sparse_rows}
use Rattle.rh_sparse.proofs.Numbers.{count_is, sparse_size}
use Rattle.rh_sparse.proofs.SparseRows.{sparse_covered}
use Rattle.rh_sparse.proofs.sparse.Sparse.new.Goals as goal

pub new-requires-2 : goal.new-requires-2
new-requires-2 c =
    let facts = c.args.ground.now in
    let few = facts.laid.few_words in
    let size = words_counted facts.file.schemas facts.program in
    let items = ap length c.from.ensures in
    let tied = c.in_ok-masks.masks.ok.0 in
    let many = c.in_ok-masks.ensures.length ∙ ap (λ (f : Ground). length (full_in f)) c.in_ok-support.ensures in
    omega (arith, few, size, items, tied, many)

pub invariant_of-result : goal.invariant_of-result
invariant_of-result c =
    let facts = c.args.ground.now in
    let full = full_in facts in
    let rows = rows_in facts in
    let words : c.in_ok-numbering.numbering.words ≡ c.in_ok-masks.masks.items = c.in_ok-numbering.ensures ∙ c.from.ensures in
    let are : AreCandidates facts c.in_ok-numbering.numbering.words = record { as_many = ap length words ∙ sym c.in_ok-masks.masks.ok.0 ∙ c.in_ok-masks.ensures.length ∙ ap (λ (f : Ground). length (full_in f)) c.in_ok-support.ensures; has_rows = λ bit. ap (λ (list : List ℕ). bits_in list bit) words ∙ c.in_ok-masks.ensures.bits bit ∙ ap (λ (f : Ground). has_row (rows_in f) bit) c.in_ok-support.ensures } in
    record {
      candidates = are;
      covered = list_all-from_AllPass (λ row. bits_in (sparse_full full rows) row.bit) (sparse_rows rows) (sparse_covered full rows (covered_by_all full rows facts.covered));
      same = c.in_ok-support.ensures;
      width = c.in_ok-flow.ensures ∙ c.width.ensures ∙ ap width_of (count_is facts c.in_ok-numbering.numbering.words are) ∙ sym (sparse_size full rows);
    }
