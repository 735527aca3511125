use Rattle.std.proofs.Common.{◌≡◌, ◌<◌, ◌≤◌, ◌+◌, arith, ◌∙◌, lit<, ⊎_elim}
use Rattle.rh_rule_source.specs.Grammar.{productions, size}
use Rattle.rh_rule_parse.proofs.Steps.{first_or_later}
use Rattle.rh_rule_parse.proofs.cursor.Cursor.size.Goals as goal

pub returns-clause-reads : goal.returns-clause-reads
unfolding productions
returns-clause-reads c rest h =
    let n = c.choose.result in
    let high : n < 3 = c.choose.ensures.within size rest h in
    ⊎_elim
    (λ (is : n ≡ 0). let s0 = c.choose.ensures.known 0 is size rest h in let s1 = c.number.ensures.reads _ _ s0.1 (lit< tt) (lit< tt) in (s0.0 ∙ s1.0, s1.1))
    (λ (above : 0 + 1 ≤ n).
    ⊎_elim
    (λ (is : n ≡ 1). let s0 = c.choose.ensures.known 1 is size rest h in let s1 = c.number.ensures.reads _ _ s0.1 (lit< tt) (lit< tt) in (s0.0 ∙ s1.0, s1.1))
    (λ (over : 1 + 1 ≤ n).
    let is : n ≡ 2 = omega arith in
    let s0 = c.choose.ensures.known 2 is size rest h in let s1 = c.number.ensures.reads _ _ s0.1 (lit< tt) (lit< tt) in (s0.0 ∙ s1.0, s1.1))
    (first_or_later 1 n (omega arith)))
    (first_or_later 0 n (omega arith))
