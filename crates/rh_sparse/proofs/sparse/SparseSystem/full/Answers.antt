use Rattle.std.proofs.Common.{length, ◌-◌, ◌*◌, ◌^◌, min, ap, ◌∙◌, arith}
use Rattle.rh_sparse.specs.Parts.{full_in, rows_in}
use Rattle.rh_rank.proofs.Counted.{few_before}
use Rattle.rh_sparse.proofs.Numbers.{count_is, sparse_size, sparse_word}
use Rattle.rh_sparse.proofs.sparse.SparseSystem.full.Goals as goal

pub overflow_mul-word : goal.overflow_mul-word
overflow_mul-word c =
    let me = c.args.self.now in
    let numbering = me.numbering in
    let few = few_before numbering.words (length numbering.words) in
    let all = numbering.few in
    let size = sparse_size (full_in me.facts.now) (rows_in me.facts.now) in
    let count = count_is me.facts.now numbering.words me.candidates in
    omega (arith, few, all, size, count, c.requires)

pub returns : goal.returns
returns c =
    let me = c.args.self.now in
    let word = c.args.word in
    c.low_ones.ensures ∙ ap (λ n. 2 ^ min 64 n - 1) c.saturating_sub.ensures
    ∙ ap (λ n. 2 ^ min 64 (n - 64 * word) - 1) (c.count.ensures ∙ count_is me.facts.now me.numbering.words me.candidates)
    ∙ sparse_word (full_in me.facts.now) (rows_in me.facts.now) word c.requires
