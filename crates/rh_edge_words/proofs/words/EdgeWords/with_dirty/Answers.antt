use Rattle.std.proofs.Common.{◌≡◌, ◌∙◌, ◌++◌, ℕ, List, [], length, replicate, ap, sym, subst, arith}
use Rattle.atomic_table.specs.Table.{opening}
use Rattle.rh_system.specs.Rows.{IsCovered}
use Rattle.rh_edge_words.specs.Views.{first_view}
use Rattle.rh_edge_words.specs.Rule.{KeepsTable}
use Rattle.rh_edge_words.proofs.Opens.{opens, first_seat, covered_as, seat_as}
use Rattle.rh_edge_words.proofs.words.EdgeWords.with_dirty.Goals as goal

pub of_words-requires : goal.of_words-requires
of_words-requires g c =
    let m = g.N.SystemName.meaning in
    let zeros : List ℕ = replicate c.args.dirty 0 in
    let copied : c.as_slice-2.result.now ≡ m.full = c.as_slice-2.ensures.value ∙ (c.in_ok-copy.ensures ∙ sym c.requires.full) in
    let made : c.in_ok-words.words.items ≡ c.as_slice-2.result.now ++ zeros = c.in_ok-words.ensures in
    let words : c.as_slice-3.result.now ≡ m.full ++ zeros = c.as_slice-3.ensures.value ∙ (made ∙ ap (λ (ws : List ℕ). ws ++ zeros) copied) in
    let covered : IsCovered m.full m.rows = covered_as m _ _ c.requires.full c.requires.rows (g.met.S.System.covered c.args.system.now) in
    subst (λ (ws : List ℕ). KeepsTable m (opening ws [] (first_view m.full))) (sym words) (opens m zeros covered)

pub invariant_of-seat : goal.invariant_of-seat
invariant_of-seat g c =
    let m = g.N.SystemName.meaning in
    let covered : IsCovered m.full m.rows = covered_as m _ _ c.requires.full c.requires.rows (g.met.S.System.covered c.args.system.now) in
    let items : c.in_ok-copy.copy.items ≡ m.full = c.in_ok-copy.ensures ∙ sym c.requires.full in
    let long : length m.full ≡ length (g.S.System.full_words c.args.system.now) = ap length c.requires.full in
    seat_as m _ _ _ (first_seat m covered (omega (arith, c.words-few.ensures, c.words-few.type_inv))) (ap (λ p. p.0) c.in_ok-table.ensures.4) (ap (λ p. p.1) c.in_ok-table.ensures.4) items
