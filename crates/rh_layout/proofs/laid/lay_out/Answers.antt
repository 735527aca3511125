use Rattle.std.proofs.Common.{◌∙◌, ap, length, arith}
use Rattle.rh_layout.proofs.FlowEdges.{edges_size, words_size}
use Rattle.rh_layout.proofs.laid.lay_out.Goals as goal

pub overflow_cast-next_word : goal.overflow_cast-next_word
overflow_cast-next_word c =
    let short = edges_size c.args.proc.now c.as_slice.result.now c.len.result c.requires.short c.as_slice.ensures.value (c.len.ensures ∙ ap length (c.from-edges.ensures ∙ c.in_ok-edges_of.ensures)) in
    omega (arith, short)

pub overflow_mul-next_word : goal.overflow_mul-next_word
overflow_mul-next_word c =
    let short = edges_size c.args.proc.now c.as_slice.result.now c.len.result c.requires.short c.as_slice.ensures.value (c.len.ensures ∙ ap length (c.from-edges.ensures ∙ c.in_ok-edges_of.ensures)) in
    let few = words_size c.len.result c.div_ceil-width.result c.fact_count-count.result short c.div_ceil-width.ensures c.if-count-gt-MOST_FACTS.false in
    omega (arith, few)

pub overflow_add-next_word : goal.overflow_add-next_word
overflow_add-next_word c =
    let short = edges_size c.args.proc.now c.as_slice.result.now c.len.result c.requires.short c.as_slice.ensures.value (c.len.ensures ∙ ap length (c.from-edges.ensures ∙ c.in_ok-edges_of.ensures)) in
    let few = words_size c.len.result c.div_ceil-width.result c.fact_count-count.result short c.div_ceil-width.ensures c.if-count-gt-MOST_FACTS.false in
    omega (arith, few, c.requires.room)

pub returns-clause-next : goal.returns-clause-next
returns-clause-next c =
    let short = edges_size c.args.proc.now c.as_slice.result.now c.len.result c.requires.short c.as_slice.ensures.value (c.len.ensures ∙ ap length (c.from-edges.ensures ∙ c.in_ok-edges_of.ensures)) in
    let few = words_size c.len.result c.div_ceil-width.result c.fact_count-count.result short c.div_ceil-width.ensures c.if-count-gt-MOST_FACTS.false in
    omega (arith, few)

pub entering_numbers-requires-clause-few : goal.entering_numbers-requires-clause-few
entering_numbers-requires-clause-few c =
    let short = edges_size c.args.proc.now c.as_slice.result.now (length c.as_slice-2.result.now) c.requires.short c.as_slice.ensures.value (ap length (c.as_slice-2.ensures.value ∙ c.from-edges.ensures ∙ c.in_ok-edges_of.ensures)) in
    omega (arith, short)
