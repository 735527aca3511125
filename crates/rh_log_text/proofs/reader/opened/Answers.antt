use Rattle.std.proofs.Common.{sym, subst}
use Rattle.rh_log_text.specs.declared.line.Line.TheVariants.{Log}
use Rattle.rh_log_text.specs.declared.reader.Reader.TheVariants.{Between, Within}
use Rattle.rh_log_text.specs.declared.reader.Unfinished.{Unfinished}
use Rattle.rh_log_text.specs.Reader.{Reads}
use Rattle.rh_log_text.proofs.Steps.{reads_log}
use Rattle.rh_log_text.proofs.reader.opened.Goals as goal

pub returns : goal.returns
returns c =
    subst (λ (log : Unfinished). Reads (Between c.args.done c.args.section) c.args.number (Log c.args.told) (Within c.args.done c.args.section log)) (sym c.in_ok-new.ensures)
    (reads_log c.args.done c.args.section c.args.told c.args.number)
