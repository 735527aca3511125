use Rattle.std.proofs.Common.{ℕ, ◌&&◌, List, ap, sym, ◌∙◌}
use Rattle.rh_carry.specs.Carry.{carried_rows}
use Rattle.rh_carry.proofs.Split.{no_support}
use Rattle.rh_system.specs.Bits.{bits_in}
use Rattle.rh_sparse.proofs.support.Support.is_carried.Goals as goal

pub returns-then-has : goal.returns-then-has
returns-then-has g c =
    let me = c.args.self.now in
    let bit = c.args.bit in
    let here = sym (me.are.carried_are bit) ∙ sym (ap (λ (words : List ℕ). bits_in words bit) c.as_slice.ensures.value) ∙ sym c.has.ensures ∙ c.if-has.true in
    let known = c.is_known_before.result in
    sym (me.before (g.T.BitTest.holds c.args.known.now) bit known c.is_known_before.ensures ∙ ap (λ b. b && known) here)

pub returns-else-has : goal.returns-else-has
returns-else-has g c =
    let me = c.args.self.now in
    let facts = me.facts.now in
    let bit = c.args.bit in
    let none = sym (me.are.carried_are bit) ∙ sym (ap (λ (words : List ℕ). bits_in words bit) c.as_slice.ensures.value) ∙ sym c.has.ensures ∙ c.if-has.false in
    c.if-has.false ∙ sym (no_support (carried_rows facts.file facts.rulings facts.program) (g.T.BitTest.holds c.args.known.now) bit none)
