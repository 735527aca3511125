use Rattle.std.proofs.Common.{sym, append-nil}
use Rattle.rh_report.specs.FactLines.{line_at, texts_of}
use Rattle.rh_report.proofs.WordLines.{word_added}
use Rattle.rh_report.proofs.known.EdgeFacts.push_lines.Goals as goal

pub loop-within-init : goal.loop-within-init
unfolding texts_of
loop-within-init c = sym (append-nil c.args.out.now.items)

pub loop-within-preserved : goal.loop-within-preserved
loop-within-preserved c =
    let self = c.args.self.now in
    word_added c.args.words.now c.args.start c.loop-within.within c.word_at.result (line_at self.schemas.now self.program.now self.laid.now.domain self.place self.edge)
    c.args.out.now.items c.loop-within.out.items c.push_word.new.out.items c.word_at.ensures c.loop-within.invariant c.in_ok-push_word.ensures
