use Rattle.std.proofs.Common.{◌-◌, bit_and, count_ones, ap, ◌∙◌}
use Rattle.std.proofs.lemmas.Nat.{and_mask, one_shl}
use Rattle.rh_rank.proofs.word.ones_below.Goals as goal

pub returns : goal.returns
returns c = ap (λ n. count_ones (bit_and c.args.word (n - 1))) (one_shl c.args.place 64 c.requires) ∙ ap count_ones (and_mask c.args.word c.args.place)
