use Rattle.std.proofs.Common.{◌++◌, arith}
use Rattle.rh_report.specs.FactLines.{line_at, texts_of}
use Rattle.rh_report.proofs.WordLines.{is_set_from, last_line, next_line}
use Rattle.rh_report.proofs.known.EdgeFacts.push_word.Goals as goal

pub loop-place-preserved : goal.loop-place-preserved
loop-place-preserved c =
    let self = c.args.self.now in
    let text = line_at self.schemas.now self.program.now self.laid.now.domain self.place self.edge in
    let found = c.in-Some.ensures in
    let below = found.within.1 in (
      omega (arith, below),
      next_line c.args.word c.args.first text c.loop-place.from c.in-Some.place c.loop-place.out.items c.push_line.new.out.items
          (c.args.out.now.items ++ texts_of (is_set_from c.args.word c.args.first) text c.args.first 64) found.within.0 below found.found found.least c.loop-place.invariant.1 c.in_ok-push_line.ensures,
    )

pub returns : goal.returns
returns c =
    let self = c.args.self.now in
    let text = line_at self.schemas.now self.program.now self.laid.now.domain self.place self.edge in
    last_line c.args.word c.args.first text c.loop-place.from c.loop-place.out.items (c.args.out.now.items ++ texts_of (is_set_from c.args.word c.args.first) text c.args.first 64)
    c.in_default.ensures.none c.loop-place.invariant.1
