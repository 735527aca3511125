use Rattle.std.proofs.Common.{ℕ, ◌≡◌, ◌+◌, ◌∙◌, ◌&&◌}
use Rattle.std.proofs.lemmas.Result.{IfOk-weaker}
use Rattle.rh_system.specs.Bits.{bit_count, bits_in}
use Rattle.rh_system.specs.Covered.{covered_by_all}
use Rattle.rh_system.specs.Rows.{IsGreatest}
use Rattle.rh_sparse.specs.Parts.{full_in, rows_in}
use Rattle.rh_rank.specs.Rank.{rank}
use Rattle.rh_sparse.specs.Sparse.{missing_count, sparse_full, sparse_rows}
use Rattle.rh_sparse.proofs.GreatestBits.{greatest_expanded}
use Rattle.rh_sparse.proofs.Missing.{missing_and_greatest}
use Rattle.rh_sparse.proofs.Numbers.{number_is}
use Rattle.rh_sparse.proofs.sparse.Sparse.expand.Goals as goal

pub returns-clause-greatest : goal.returns-clause-greatest
returns-clause-greatest c =
    let me = c.args.self.now in
    let rows = rows_in me.facts.now in
    let words = me.numbering.words in
    let numbers = c.args.words.now in
    IfOk-weaker c.expand.result (λ expanded. (bit : ℕ) → bits_in expanded.items bit ≡ (bits_in words bit && bits_in numbers (rank (bits_in words) bit)))
    (λ expanded. IsGreatest (sparse_rows rows) numbers → IsGreatest rows expanded.items)
    (λ expanded bits greatest. greatest_expanded rows expanded.items numbers
    (λ bit. bits bit ∙ (λ i. me.candidates.has_rows bit i && bits_in numbers (number_is me.facts.now words me.candidates bit i))) greatest)
    c.expand.ensures.bits

pub returns-clause-missing : goal.returns-clause-missing
returns-clause-missing c =
    let me = c.args.self.now in
    let full = full_in me.facts.now in
    let rows = rows_in me.facts.now in
    let words = me.numbering.words in
    let numbers = c.args.words.now in
    IfOk-weaker c.expand.result (λ expanded. (bit : ℕ) → bits_in expanded.items bit ≡ (bits_in words bit && bits_in numbers (rank (bits_in words) bit)))
    (λ expanded. IsGreatest (sparse_rows rows) numbers → missing_count full rows expanded.items + bit_count numbers ≡ bit_count (sparse_full full rows))
    (λ expanded bits greatest. missing_and_greatest full rows (covered_by_all full rows me.facts.now.covered) numbers greatest expanded.items
    (λ bit. bits bit ∙ (λ i. me.candidates.has_rows bit i && bits_in numbers (number_is me.facts.now words me.candidates bit i)))
    (λ word. (c.type_inv.words word).fits) c.requires)
    c.expand.ensures.bits
