use Rattle.std.proofs.Common.{◌≡◌, decimal, ap, sym, ◌∙◌}
use Rattle.std.proofs.lemmas.Slice.Eq.{bytes_eq-Decides}
use Rattle.rh_log_text.specs.Reading.{number_of}
use Rattle.rh_log_text.proofs.Numbers.{number_back}
use Rattle.rh_log_text.proofs.number.spelled.Goals as goal

pub returns-then-eq : goal.returns-then-eq
returns-then-eq c =
    let same : c.as_bytes.result.now ≡ c.args.word.now = (bytes_eq-Decides c.as_bytes.result.now c.args.word.now).0 (sym c.eq.ensures ∙ c.if-eq.true) in
    let word : c.args.word.now ≡ decimal c.args.number = sym same ∙ c.as_bytes.ensures.value ∙ c.format.ensures.text in
    sym (ap number_of word ∙ number_back c.args.number c.ranges.number.fits)
