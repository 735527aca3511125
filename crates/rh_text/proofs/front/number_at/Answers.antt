use Rattle.std.proofs.Common.{sym, ◌∙◌}
use Rattle.rh_text.proofs.FrontLemmas.{digits_pass, number_front, number_fault}
use Rattle.rh_text.proofs.front.number_at.Goals as goal

pub decimal-requires : goal.decimal-requires
decimal-requires c = digits_pass c.args.text.now _ c.requires c.digits_len-len.ensures

pub returns-in-Some : goal.returns-in-Some
returns-in-Some c = number_front c.args.text.now _ _ c.requires c.digits_len-len.ensures (sym c.in-Some.is ∙ c.decimal.ensures.value)

pub returns-in-None : goal.returns-in-None
returns-in-None c = number_fault c.args.text.now _ c.args.at c.requires c.digits_len-len.ensures (sym c.in-None.is ∙ c.decimal.ensures.value)
