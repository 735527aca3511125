use Rattle.std.proofs.Common.{sym, ◌∙◌}
use Rattle.rh_text.proofs.FrontLemmas.{space_front, comment_front, sign_front, odd_fault}
use Rattle.rh_text.proofs.front.front_at.Goals as goal

pub returns-then-is_space : goal.returns-then-is_space
returns-then-is_space c = space_front c.args.text.now c.requires (sym c.is_space.ensures ∙ c.if-is_space.true)

pub returns-then-first-eq35 : goal.returns-then-first-eq35
returns-then-first-eq35 c = comment_front c.args.text.now _ c.requires c.if-first-eq35.true c.line_len-len.ensures

pub returns-in-Some : goal.returns-in-Some
returns-in-Some c = sign_front c.args.text.now _ _ c.requires (sym c.in-Some.is ∙ c.sign_at.ensures)

pub returns-in-None : goal.returns-in-None
returns-in-None c = odd_fault c.args.text.now c.args.at (record {
  nonempty = c.requires;
  no_space = sym c.is_space.ensures ∙ c.if-is_space.false;
  no_hash = c.if-first-eq35.false;
  no_letter = sym c.is_ascii_alphabetic.ensures.value ∙ c.if-is_ascii_alphabetic.false;
  no_digit = sym c.is_ascii_digit.ensures.value ∙ c.if-is_ascii_digit.false;
  no_sign = sym c.in-None.is ∙ c.sign_at.ensures;
})
