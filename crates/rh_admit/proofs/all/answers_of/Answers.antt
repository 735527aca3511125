use Rattle.std.proofs.Common.{◌≡◌, ◌<◌, ◌-◌, ◌∙◌, ℕ, List, length, ap, arith, subst}
use Rattle.std.specs.List.{AllZip, range_with_len}
use Rattle.rayon.specs.Numbers.{nat_range}
use Rattle.rayon.proofs.ListFacts.{IfOk-then}
use Rattle.rayon.proofs.ToStd.{nat_range-All}
use Rattle.rh_rule.specs.RuleFiles.{OfRule}
use Rattle.rh_admit.specs.Rules.{Answer, IsAnswer}
use Rattle.rh_admit.proofs.all.answers_of.Goals as goal

-- each number of the range is that of a rule
pub collect-requires-clause-ready : goal.collect-requires-clause-ready
collect-requires-clause-ready g c κs within =
    let ends = c.into_par_iter.ensures in
    let count = length c.args.file.now.rules in
    let inside = nat_range-All (λ i. i < count) 0 count (λ i low high. high) in
    rw (c.map.ensures.base, c.map.ensures.f, c.with_min_len.ensures.base, ends.0, ends.1, c.rule_count.ensures) (λ k d lt. (inside k d lt, λ y p. tt))

pub returns : goal.returns
returns g c =
    let ends = c.into_par_iter.ensures in
    let file = c.args.file.now in
    let count = length file.rules in
    let whole : count - 0 ≡ count = omega arith in
    IfOk-then c.collect.result _ _ c.collect.ensures (λ made given.
    let chain = rw (c.map.ensures.base, c.map.ensures.f, c.with_min_len.ensures.base) at given.1 in
    let numbers = chain.1 ∙ (λ i. nat_range (ends.0 i) ((ends.1 ∙ c.rule_count.ensures) i)) ∙ ap (range_with_len 0) whole in
    rw given.2 (subst (λ (all : List ℕ). AllZip (λ number (answer : Answer). OfRule file number (λ schemas rule. IsAnswer schemas rule number answer)) all given.0) numbers chain.2))
