use Rattle.std.proofs.Common.{◌≡◌, ap, ◌∙◌, arith}
use Rattle.rh_layout.specs.Bits.{word_count}
use Rattle.rh_report.proofs.Counted.{total}
use Rattle.rh_report.proofs.KnownCounts.{all_known, ones_in}
use Rattle.rh_report.proofs.tally.facts.Goals as goal

pub returns : goal.returns
returns c =
    let schemas = c.args.ground.now.file.schemas in
    let procs = c.args.ground.now.program in
    let words = c.args.words.now in
    let count = c.words-word-end.ensures schemas procs c.layout-layout.ensures in
    let all : c.loop-word.word ≡ word_count schemas procs = omega (arith, count, c.loop-word.auto.word-end, c.loop-word-test.false) in
    c.loop-word.invariant.1 ∙ ap (total (ones_in schemas procs words)) all ∙ all_known schemas procs words
