use Rattle.std.proofs.Common.{◌≡◌, ◌∙◌, ◌^◌, ◌<◌, ℕ, List, length, slice_index, ap, subst, sym}
use Rattle.rh_system.specs.Rows.{IsGreatest}
use Rattle.rh_edge_words.specs.Seated.{ArePartsOf}
use Rattle.rh_edge_words.proofs.Closes.{parts, counts_parted}
use Rattle.rh_edge_words.proofs.words.EdgeWords.close.Goals as goal

pub returns-clause-credits : goal.returns-clause-credits
returns-clause-credits g c greatest =
    let m = g.N.SystemName.meaning in
    let v = c.seat.inside.seat.me.0 in
    let final = c.close_with-closed.ensures.values.2 in
    let copied : c.seat.inside.copy.items ≡ v.seen = c.seat.invariant.copied in
    let whole : v.stake ≡ 16 = ap (λ p. p.1.stake) c.seat.view_is ∙ c.requires.stake in
    let shared : ArePartsOf v.credits v.seen m.full = parts m final.0 c.seat.inside.seat.id v final.1.0 final.1.1 whole (subst (λ (ws : List ℕ). IsGreatest m.rows ws) copied greatest) in
    let credits : v.credits ≡ c.args.seat.1.credits = ap (λ p. p.1.credits) c.seat.view_is in
    subst (λ (cs : List ℕ). ArePartsOf cs c.seat.inside.copy.items m.full) credits (subst (λ (ws : List ℕ). ArePartsOf v.credits ws m.full) (sym copied) shared)

pub returns-clause-count : goal.returns-clause-count
returns-clause-count g c greatest =
    let seated = c.seat.invariant.seated in
    let v = c.seat.inside.seat.me.0 in
    let words : List ℕ = c.seat.inside.copy.items in
    let credits : v.credits ≡ c.args.seat.1.credits = ap (λ p. p.1.credits) c.seat.view_is in
    counts_parted c.args.seat.1.credits words g.N.SystemName.meaning.full (sym (ap length credits) ∙ seated.credits_as_long) (ap length c.seat.invariant.copied ∙ seated.as_long)
    (λ k. subst (λ (cs : List ℕ). slice_index cs k < 2 ^ 64) credits (seated.credits_fit k))
    (λ k. subst (λ (ws : List ℕ). slice_index ws k < 2 ^ 64) c.as_slice.ensures.value (c.all_fit.ensures k))
    c.self.invariant.0.fit (returns-clause-credits g c greatest)
