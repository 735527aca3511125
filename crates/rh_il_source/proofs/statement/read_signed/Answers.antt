use Rattle.std.proofs.Common.{arith, lit<, ⊎_elim, ◌+◌, ◌<◌, ◌∙◌, ◌≡◌, ◌≤◌}
use Rattle.rh_il_source.specs.Grammar.{productions, number}
use Rattle.rh_il_source.proofs.Steps.{first_or_later}
use Rattle.rh_il_source.proofs.statement.read_signed.Goals as goal

pub returns-in_default-clause-reads : goal.returns-in_default-clause-reads
unfolding productions
returns-in_default-clause-reads c rest h =
    let high : c.choose.result < 3 = c.choose.ensures.within productions number rest h in
    ⊎_elim
    (λ (is : c.choose.result ≡ 0). let s0 = c.choose.ensures.known 0 is productions number rest h in let s1 = c.read_number-size.ensures.reads _ _ s0.1 (lit< tt) (lit< tt) in (s0.0 ∙ s1.0, s1.1))
    (λ (above : 0 + 1 ≤ c.choose.result). let is : c.choose.result ≡ 1 = omega arith in let s0 = c.choose.ensures.known 1 is productions number rest h in let s1 = c.read_number-size.ensures.reads _ _ s0.1 (lit< tt) (lit< tt) in (s0.0 ∙ s1.0, s1.1))
    (first_or_later 0 c.choose.result (omega arith))
