use Rattle.std.proofs.Common.{ℕ, List, codes, sym, subst, append_assoc}
use Rattle.std.specs.Fmt.{HasWritten, decimal}
use Rattle.rh_report.specs.declared.status.Large.{Large}
use Rattle.rh_report.specs.Status.{large_text}
use Rattle.rh_report.proofs.status.LargeDisplay.fmt.Goals as goal

pub returns-in-Facts-clause-writes : goal.returns-in-Facts-clause-writes
returns-in-Facts-clause-writes g c = λ plain written.
    let text = subst (λ (bytes : List ℕ). HasWritten {W = g.row.W.Denot} g.W.Write.write_str_gives c.args.f.now bytes c.write-in-Facts.new.self)
    (sym (append_assoc (decimal c.in-Facts.count) (codes " facts at procedure ") (decimal c.in-Facts.proc))) (c.write-in-Facts.ensures.writes plain written) in
    subst (λ (large : Large). HasWritten {W = g.row.W.Denot} g.W.Write.write_str_gives c.args.f.now (large_text large) c.write-in-Facts.new.self) (sym c.in-Facts.is) text
