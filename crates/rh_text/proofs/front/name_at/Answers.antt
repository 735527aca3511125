use Rattle.std.proofs.Common.{sym, ◌∙◌}
use Rattle.rh_text.proofs.FrontLemmas.{name_front, name_fault, lower_kind, upper_kind}
use Rattle.rh_text.proofs.front.name_at.Goals as goal

pub returns-then-len-gt-NAME_LIMIT : goal.returns-then-len-gt-NAME_LIMIT
returns-then-len-gt-NAME_LIMIT c =
    name_fault c.args.text.now _ c.args.at c.requires c.word_len-len.ensures c.if-len-gt-NAME_LIMIT.true

pub returns-then-is_ascii_lowercase : goal.returns-then-is_ascii_lowercase
returns-then-is_ascii_lowercase c =
    name_front c.args.text.now _ _ c.requires c.word_len-len.ensures c.if-len-gt-NAME_LIMIT.false (lower_kind c.args.text.now (sym c.is_ascii_lowercase.ensures.value ∙ c.if-is_ascii_lowercase.true))

pub returns-else-is_ascii_lowercase : goal.returns-else-is_ascii_lowercase
returns-else-is_ascii_lowercase c =
    name_front c.args.text.now _ _ c.requires c.word_len-len.ensures c.if-len-gt-NAME_LIMIT.false (upper_kind c.args.text.now (sym c.is_ascii_lowercase.ensures.value ∙ c.if-is_ascii_lowercase.false))
