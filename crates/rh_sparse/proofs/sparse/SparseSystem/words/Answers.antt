use Rattle.std.proofs.Common.{ap, sym, ◌∙◌}
use Rattle.rh_layout.specs.Bits.{width_of}
use Rattle.rh_sparse.specs.Parts.{full_in, rows_in}
use Rattle.rh_sparse.proofs.Numbers.{count_is, sparse_size}
use Rattle.rh_sparse.proofs.sparse.SparseSystem.words.Goals as goal

pub returns : goal.returns
returns c =
    let me = c.args.self.now in
    c.width.ensures ∙ ap width_of (count_is me.facts.now me.numbering.words me.candidates) ∙ sym (sparse_size (full_in me.facts.now) (rows_in me.facts.now))
