use Rattle.std.proofs.Common.{ℕ, List, ap, sym, ◌∙◌}
use Rattle.rh_carry.specs.Carry.{other_rows}
use Rattle.rh_carry.proofs.Split.{no_support}
use Rattle.rh_system.specs.Bits.{bits_in}
use Rattle.rh_sparse.proofs.support.Support.is_found.Goals as goal

pub returns-else-has : goal.returns-else-has
returns-else-has g c =
    let me = c.args.self.now in
    let facts = me.facts.now in
    let bit = c.args.bit in
    let none = sym (me.are.searched_are bit) ∙ sym (ap (λ (words : List ℕ). bits_in words bit) c.as_slice.ensures.value) ∙ sym c.has.ensures ∙ c.if-has.false in
    c.if-has.false ∙ sym (no_support (other_rows facts.file facts.rulings facts.program) (g.T.BitTest.holds c.args.known.now) bit none)
