use Rattle.std.proofs.Common.{◌≡◌, ◌+◌, ◌<◌, length, ap, sym, ◌∙◌, arith}
use Rattle.std.proofs.lemmas.Option.{same_Some}
use Rattle.std.specs.Option.{option_and_then, option_or}
use Rattle.std.specs.Prelude.{slice_get}
use Rattle.rh_rows.specs.Known.{known_in}
use Rattle.rh_transform.proofs.Applying.{first_from, from_next}
use Rattle.rh_transform.proofs.templates.first_rewrite.Goals as goal

pub returns-in-Some : goal.returns-in-Some
returns-in-Some c = λ proc stmt at read.
    let ground = c.args.ground.now in
    let known = known_in ground.file.schemas ground.program c.args.words.now in
    let below : c.loop-rule.rule < length ground.file.rules = omega (arith, c.loop-rule-test.true, c.rule_count-rule-end.ensures) in
    let same : c.in_ok-stmt.stmt ≡ stmt =
    same_Some c.in_ok-stmt.stmt stmt
    (c.in_ok-stmt.ensures
    ∙ ap (λ procs. option_and_then (λ p. slice_get p.body c.args.number) (slice_get procs c.args.place)) c.program.ensures
    ∙ ap (option_and_then (λ p. slice_get p.body c.args.number)) at ∙ read) in
    sym (c.loop-rule.invariant proc at
    ∙ from_next known c.args.place proc c.args.number c.in_ok-stmt.stmt ground.file.rules ground.rulings c.loop-rule.rule below
    ∙ ap (λ o. option_or o (first_from known c.args.place proc c.args.number c.in_ok-stmt.stmt ground.file.rules ground.rulings (c.loop-rule.rule + 1))) (sym (c.template_at.ensures proc at) ∙ c.in-Some.is))
    ∙ ap (λ s. first_from known c.args.place proc c.args.number s ground.file.rules ground.rulings 0) same

pub loop-rule-preserved : goal.loop-rule-preserved
loop-rule-preserved c = λ proc at.
    let ground = c.args.ground.now in
    let known = known_in ground.file.schemas ground.program c.args.words.now in
    let below : c.loop-rule.rule < length ground.file.rules = omega (arith, c.loop-rule-test.true, c.rule_count-rule-end.ensures) in
    c.loop-rule.invariant proc at
    ∙ from_next known c.args.place proc c.args.number c.in_ok-stmt.stmt ground.file.rules ground.rulings c.loop-rule.rule below
    ∙ ap (λ o. option_or o (first_from known c.args.place proc c.args.number c.in_ok-stmt.stmt ground.file.rules ground.rulings (c.loop-rule.rule + 1))) (sym (c.template_at.ensures proc at) ∙ c.in_default.is)
