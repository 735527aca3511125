use Rattle.std.proofs.Common.{ℕ, ◌≡◌, ◌||◌, List, length, ap, ◌∙◌}
use Rattle.std.specs.Prelude.{vec_len}
use Rattle.std.proofs.lemmas.Result.{IfOk-weaker}
use Rattle.rh_system.specs.Bits.{bits_in}
use Rattle.rh_rank.specs.Union.{united}
use Rattle.rh_rank.proofs.Uniting.{united_bits, united_size}
use Rattle.rh_rank.proofs.union.united.Goals as goal

pub returns-clause-length : goal.returns-clause-length
returns-clause-length c =
    let ones = c.args.ones.now in
    let others = c.args.others.now in
    IfOk-weaker c.union_of.result (λ words. words.items ≡ united ones others) (λ words. vec_len words ≡ length ones)
    (λ words is. words.ok.0 ∙ ap length is ∙ united_size ones others c.requires) c.union_of.ensures

pub returns-clause-bits : goal.returns-clause-bits
returns-clause-bits c =
    let ones = c.args.ones.now in
    let others = c.args.others.now in
    IfOk-weaker c.union_of.result (λ words. words.items ≡ united ones others) (λ words. (bit : ℕ) → bits_in words.items bit ≡ (bits_in ones bit || bits_in others bit))
    (λ words is bit. ap (λ (list : List ℕ). bits_in list bit) is ∙ united_bits ones others c.requires bit) c.union_of.ensures
