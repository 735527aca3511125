use Rattle.std.proofs.Common.{length, drop, refl}
use Rattle.std.proofs.lemmas.List.{drop_all}
use Rattle.std.proofs.lemmas.Option.{slice_get_read}
use Rattle.rh_ground.proofs.FindLists.{nothing_left}
use Rattle.rh_sparse.proofs.RulesLeft.{next_rule, no_rule, no_ruling}
use Rattle.rh_sparse.proofs.candidates.mark_rules.Goals as goal

pub mark_rule-requires : goal.mark_rule-requires
mark_rule-requires c =
    let rules = c.args.rules.now in
    let i = c.loop-rule.rule-index in
    let rule = c.rule-item.result in
    c.requires i rule (slice_get_read rules (length rules) i rule refl c.loop-rule-test.true c.rule-item.is)

pub loop-rule-preserved : goal.loop-rule-preserved
loop-rule-preserved c = λ new more.
    let site = c.args.site.now in
    c.loop-rule.invariant new
    (next_rule site.schemas.now site.program.now site.place site.proc.now site.edge c.args.rules.now c.loop-rule.rule-index c.rule-item.result c.loop-rule.left.now c.in-Some.others.now c.in-Some.ruling.now
    c.loop-rule.masks.items c.mark_rule.new.masks.items new c.loop-rule-test.true c.rule-item.is c.in-Some.ensures.cases.0 c.mark_rule.ensures more)

pub returns-in_default : goal.returns-in_default
returns-in_default c =
    let site = c.args.site.now in
    let left = c.loop-rule.left.now in
    c.loop-rule.invariant c.loop-rule.masks.items
    (no_ruling site.schemas.now site.program.now site.place site.proc.now site.edge (drop c.loop-rule.rule-index c.args.rules.now) left c.loop-rule.masks.items (nothing_left left c.in_default.ensures.cases))

pub returns : goal.returns
returns c =
    let site = c.args.site.now in
    let i = c.loop-rule.rule-index in
    let rules = c.args.rules.now in
    c.loop-rule.invariant c.loop-rule.masks.items
    (no_rule site.schemas.now site.program.now site.place site.proc.now site.edge (drop i rules) c.loop-rule.left.now c.loop-rule.masks.items (drop_all i rules c.loop-rule-test.false))
