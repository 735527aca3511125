use Rattle.std.proofs.Common.{◌+◌, length, get_or, take, refl, ap, ◌∙◌, arith}
use Rattle.std.proofs.lemmas.Option.{slice_get_read}
use Rattle.rh_list.proofs.AtPlace.{read_at}
use Rattle.rh_domain.specs.Facts.{all_facts, facts_in}
use Rattle.rh_rows.specs.Known.{known_in}
use Rattle.rh_report.proofs.EdgeLines.{facts_more, lines_added, part_of}
use Rattle.rh_report.proofs.known.push_known.Goals as goal

pub push_proc_lines-requires : goal.push_proc_lines-requires
push_proc_lines-requires c =
    let layout = c.args.layout.now in
    let place = c.loop-place.place in
    let laid = c.index-as_slice-place.result in
    let below = c.loop-place-test.true in
    let count = c.count-place-end.ensures.count in
    let size = c.requires.length_is in
    let read = c.index-as_slice-place.is ∙ ap (λ items. get_or items place laid) c.as_slice.ensures.value in
    part_of c.args.schemas.now c.args.program.now layout place laid c.requires (omega (arith, below, count))
    (slice_get_read layout.procs (length layout.procs) place laid refl (omega (arith, below, count, size)) read)

pub loop-place-preserved : goal.loop-place-preserved
loop-place-preserved c =
    let schemas = c.args.schemas.now in
    let procs = c.args.program.now in
    let place = c.loop-place.place in
    let below = c.loop-place-test.true in
    let count = c.count-place-end.ensures.count in
    let there = read_at procs place (omega (arith, below, count)) in
    lines_added schemas procs (known_in schemas procs c.args.words.now) (all_facts schemas (take place procs)) (facts_in schemas there.0 place) (all_facts schemas (take (place + 1) procs))
    c.args.out.now.items c.loop-place.out.items c.push_proc_lines.new.out.items (facts_more schemas procs place there.0 there.1) c.loop-place.invariant (c.in_ok-push_proc_lines.ensures there.0 there.1)
