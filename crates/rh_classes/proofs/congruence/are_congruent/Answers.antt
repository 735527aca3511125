use Rattle.std.proofs.Common.{ℕ, true, ◌≡◌, List, slice_index, rules, refl, arith, sym}
use Rattle.std.proofs.lemmas.Bool.{eq-eqb}
use denote.Enum.Bare.{same_true}
use Rattle.rh_il.specs.contracts.value.Op.{the_type}
use Rattle.rh_term.specs.Partition.{joined}
use Rattle.rh_classes.proofs.Heads.{when_sel, when_upd, when_op, when_kind, when_una, when_leaf}
use Rattle.rh_classes.proofs.congruence.are_congruent.Goals as goal
use Rattle.rh_classes.proofs.congruence.are_congruent.Goals.{then-eq, else-eq, then-joined-2, else-joined-2}

reflexive : (labels : List ℕ) (i : ℕ) → joined labels i i ≡ true
reflexive labels i = eq-eqb (slice_index labels i) (slice_index labels i) refl

pub returns-then-joined : goal.returns-then-joined
returns-then-joined c =
    when_sel _ (reflexive _) _ _ _ _ _ _ _ c.in-Sel.is c.in-Sel-right.is (grind arith) c.joined-then-joined.ensures

pub returns-then-joined-3 : goal.returns-then-joined-3
returns-then-joined-3 c =
    when_upd _ (reflexive _) _ _ _ _ _ _ _ _ _ c.in-Upd.is c.in-Upd-right.is
    (elim c.if-joined-2.branch [ then-joined-2 w ↦ grind arith | else-joined-2 w ↦ grind arith ])
    (elim c.if-joined-2.branch [ then-joined-2 w ↦ grind arith | else-joined-2 w ↦ grind arith ])
    c.joined-then-joined-3.ensures

pub returns-then-joined-4 : goal.returns-then-joined-4
returns-then-joined-4 c =
    when_op _ (reflexive _) _ _ _ _ _ _ _ _ _ c.in-Op.is c.in-Op-right.is
    (elim c.if-eq.branch [ then-eq w ↦ same_true the_type (search rules) _ _ (sym w.if-eq.ensures) | else-eq w ↦ grind arith ])
    (elim c.if-eq.branch [ then-eq w ↦ grind arith | else-eq w ↦ grind arith ])
    c.joined-then-joined-4.ensures

pub returns-in-Kind-right : goal.returns-in-Kind-right
returns-in-Kind-right c = when_kind _ (reflexive _) _ _ _ _ _ c.in-Kind.is c.in-Kind-right.is c.joined-in-Kind-right.ensures

pub returns-then-joined-5 : goal.returns-then-joined-5
returns-then-joined-5 c =
    when_una _ (reflexive _) _ _ _ _ _ _ _ c.in-Una.is c.in-Una-right.is (grind arith) c.joined-then-joined-5.ensures

pub returns-in_default : goal.returns-in_default
returns-in_default c =
    when_leaf _ (reflexive _) _ _ _ c.in_default.not-Sel c.in_default.not-Upd c.in_default.not-Op c.in_default.not-Kind c.in_default.not-Una
    (λ e. search rules) (λ e. search rules)
