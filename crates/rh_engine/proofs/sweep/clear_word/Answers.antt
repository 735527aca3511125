use Rattle.std.proofs.Common.{◌≡◌, ◌∙◌, ◌≢◌, ◌<◌, ◌^◌, ℕ, List, length, get_or, ap, sym, subst, arith}
use Rattle.rh_system.specs.Bits.{IsSubword, bit_count}
use Rattle.rh_edge_words.specs.declared.view.View.{View}
use Rattle.rh_system.specs.declared.system.Row.{Row}
use Rattle.rh_system.specs.Rows.{IsSupportedPart}
use Rattle.rh_engine.specs.Turns.{AreWithin, IsSwept}
use Rattle.rh_engine.proofs.Fewer.{count_cleared, part_written, part_swept}
use Rattle.rh_engine.proofs.sweep.clear_word.Goals as goal

pub returns-clause-cleared : goal.returns-clause-cleared
returns-clause-cleared g c =
    let seen = c.args.seat.now.1.seen in
    let part = c.supported_part-part.result in
    let here : c.seen.result.now ≡ seen = c.seen.ensures.value in
    let long : length c.seen.result.now ≡ length seen = ap length here in
    let fits : get_or c.seen.result.now c.args.word 0 < 2 ^ 64 = omega arith in
    let fits' : get_or seen c.args.word 0 < 2 ^ 64 = subst (λ (ws : List ℕ). get_or ws c.args.word 0 < 2 ^ 64) here fits in
    let within : IsSubword part (get_or seen c.args.word 0) = subst (λ (ws : List ℕ). IsSubword part (get_or ws c.args.word 0)) c.seen-2.ensures.value c.supported_part-part.ensures.0 in
    let differs : part ≢ get_or seen c.args.word 0 = subst (λ (ws : List ℕ). part ≢ get_or ws c.args.word 0) here c.if-part-seen.false in
    let P : View → Type 0 = λ u. bit_count u.seen < bit_count seen in
    subst P (sym c.clear.ensures.view)
    (count_cleared seen c.args.word part c.clear.result (omega (arith, c.seen.ensures.as_long, c.requires.in_range)) fits' within differs)

pub returns-clause-within : goal.returns-clause-within
returns-clause-within g c =
    let seen = c.args.seat.now.1.seen in
    let P : View → Type 0 = λ u. AreWithin u.seen seen in
    subst P (sym c.clear.ensures.view) (part_written seen c.args.word c.supported_part-part.result c.clear.result c.clear.ensures.within)

pub returns-clause-swept : goal.returns-clause-swept
returns-clause-swept g c =
    let rows = g.N.SystemName.meaning.rows in
    let seen = c.args.seat.now.1.seen in
    let part = c.supported_part-part.result in
    let long : length c.seen.result.now ≡ length seen = ap length c.seen.ensures.value in
    let inside : c.args.word < length seen = omega (arith, c.seen.ensures.as_long, c.requires.in_range) in
    let same : rows ≡ g.S.System.rows c.system.result.now = c.is_named.ensures.rows_are ∙ ap (g.S.System.rows) (sym c.system.ensures) in
    let part_is : IsSupportedPart rows c.seen-2.result.now c.args.word part = subst (λ (rs : List Row). IsSupportedPart rs c.seen-2.result.now c.args.word part) (sym same) c.supported_part-part.ensures in
    let is : IsSupportedPart rows seen c.args.word part = subst (λ (ws : List ℕ). IsSupportedPart rows ws c.args.word part) c.seen-2.ensures.value part_is in
    let P : View → Type 0 = λ u. IsSwept rows seen u.seen c.args.word in
    subst P (sym c.clear.ensures.view) (part_swept rows seen c.args.word part c.clear.result inside is)
