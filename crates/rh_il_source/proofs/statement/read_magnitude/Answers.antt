use Rattle.std.proofs.Common.{arith, lit<, ⊎_elim, ◌+◌, ◌<◌, ◌∙◌, ◌≡◌, ◌≤◌}
use Rattle.rh_il_source.specs.Grammar.{productions, magnitude}
use Rattle.rh_il_source.proofs.Steps.{first_or_later}
use Rattle.rh_il_source.proofs.statement.read_magnitude.Goals as goal

pub returns-clause-reads : goal.returns-clause-reads
unfolding productions
returns-clause-reads c rest h =
    let high : c.choose.result < 3 = c.choose.ensures.within productions magnitude rest h in
    ⊎_elim
    (λ (is : c.choose.result ≡ 0). let s0 = c.choose.ensures.known 0 is productions magnitude rest h in let s1 = c.read_number.ensures.reads _ _ s0.1 (lit< tt) (lit< tt) in (s0.0 ∙ s1.0, s1.1))
    (λ (above : 0 + 1 ≤ c.choose.result).
    ⊎_elim
    (λ (is : c.choose.result ≡ 1). let s0 = c.choose.ensures.known 1 is productions magnitude rest h in let s1 = c.read_number.ensures.reads _ _ s0.1 (lit< tt) (lit< tt) in (s0.0 ∙ s1.0, s1.1))
    (λ (above : 1 + 1 ≤ c.choose.result). let is : c.choose.result ≡ 2 = omega arith in let s0 = c.choose.ensures.known 2 is productions magnitude rest h in let s1 = c.read_number.ensures.reads _ _ s0.1 (lit< tt) (lit< tt) in (s0.0 ∙ s1.0, s1.1))
    (first_or_later 1 c.choose.result (omega arith))
    )
    (first_or_later 0 c.choose.result (omega arith))
