use Rattle.std.proofs.Common.{ℕ, ◌≡◌, ◌||◌, length, ap, sym, ◌∙◌}
use Rattle.std.specs.Prelude.{vec_len}
use Rattle.std.proofs.lemmas.Result.{IfOk-weaker}
use Rattle.rh_carry.proofs.Split.{rows_split}
use Rattle.rh_system.specs.Bits.{bits_in}
use Rattle.rh_sparse.specs.Candidates.{has_row}
use Rattle.rh_sparse.specs.Parts.{full_in, rows_in}
use Rattle.rh_sparse.proofs.support.Support.candidates.Goals as goal

pub united-requires : goal.united-requires
united-requires c =
    let me = c.args.self.now in
    ap length c.as_slice.ensures.value ∙ me.are.as_many_carried ∙ sym (ap length c.as_slice-2.ensures.value ∙ me.are.as_many_searched)

pub returns-clause-length : goal.returns-clause-length
returns-clause-length c =
    let me = c.args.self.now in
    IfOk-weaker c.united.result (λ masks. vec_len masks ≡ length c.as_slice.result.now) (λ masks. vec_len masks ≡ length (full_in me.facts.now))
    (λ masks is. is ∙ ap length c.as_slice.ensures.value ∙ me.are.as_many_carried) c.united.ensures.length

pub returns-clause-bits : goal.returns-clause-bits
returns-clause-bits c =
    let me = c.args.self.now in
    let facts = me.facts.now in
    let ones = c.as_slice.result.now in
    let others = c.as_slice-2.result.now in
    IfOk-weaker c.united.result (λ masks. (bit : ℕ) → bits_in masks.items bit ≡ (bits_in ones bit || bits_in others bit)) (λ masks. (bit : ℕ) → bits_in masks.items bit ≡ has_row (rows_in facts) bit)
    (λ masks is bit.
    is bit
    ∙ (λ i. bits_in (c.as_slice.ensures.value i) bit || bits_in (c.as_slice-2.ensures.value i) bit)
    ∙ (λ i. me.are.carried_are bit i || me.are.searched_are bit i) ∙ sym (rows_split facts.file facts.rulings facts.program bit)) c.united.ensures.bits
