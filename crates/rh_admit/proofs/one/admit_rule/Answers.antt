use Rattle.std.proofs.Common.{◌≡◌, ◌<◌, ◌^◌, List, length, sym, subst}
use Rattle.std.specs.List.{All}
use Rattle.rh_oblig.specs.Obligation.{IsSmall, obligations_of, parts_of}
use Rattle.rh_rule.specs.RuleFiles.{OfRule}
use Rattle.rh_term.specs.declared.obligation.Obligation.{Obligation}
use Rattle.rh_admit.proofs.Rulings.{told_of}
use Rattle.rh_admit.proofs.one.admit_rule.Goals as goal

pub decide_all-requires-clause-few : goal.decide_all-requires-clause-few
decide_all-requires-clause-few c = subst (λ (made : List Obligation). length made < 2 ^ 32) (sym c.as_slice.ensures.value) c.in_ok-made.ensures.few

pub decide_all-requires-clause-small : goal.decide_all-requires-clause-small
decide_all-requires-clause-small c = subst (All IsSmall) (sym c.as_slice.ensures.value) c.in_ok-made.ensures.clauses

pub returns-clause-told : goal.returns-clause-told
returns-clause-told c =
    told_of c.args.file.now c.args.rule (parts_of c.as_slice.result.now) c.in_ok-decide_all.field-0
    (subst (λ (made : List Obligation). OfRule c.args.file.now c.args.rule (λ schemas rule. parts_of made ≡ obligations_of schemas rule)) (sym c.as_slice.ensures.value) c.in_ok-made.ensures.made)
    c.in_ok-made.ensures.terms c.in_ok-decide_all.ensures.kept c.in_ok-decide_all.ensures.decided
