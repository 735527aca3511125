use Rattle.std.proofs.Common.{◌∙◌}
use Rattle.rh_grammar.proofs.Stacks.{last_is_top}
use Rattle.rh_grammar.proofs.parser.top.Goals as goal

pub returns : goal.returns
returns c = last_is_top c.args.stack.now _ (c.copied.ensures ∙ c.last.ensures.value)
