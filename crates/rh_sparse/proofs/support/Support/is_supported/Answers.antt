use Rattle.std.proofs.Common.{◌||◌, ap, sym, ◌∙◌}
use Rattle.rh_carry.specs.Carry.{other_rows}
use Rattle.rh_carry.proofs.Split.{support_split}
use Rattle.rh_system.specs.Rows.{supports}
use Rattle.rh_sparse.proofs.support.Support.is_supported.Goals as goal

pub returns-then-is_carried : goal.returns-then-is_carried
returns-then-is_carried g c =
    let facts = c.args.self.now.facts.now in
    let set = g.T.BitTest.holds c.args.known.now in
    let bit = c.args.bit in
    c.if-is_carried.true
    ∙ sym (support_split facts.file facts.rulings facts.program set bit ∙ ap (λ b. b || supports (other_rows facts.file facts.rulings facts.program) set bit) (sym c.is_carried.ensures ∙ c.if-is_carried.true))

pub returns-else-is_carried : goal.returns-else-is_carried
returns-else-is_carried g c =
    let facts = c.args.self.now.facts.now in
    let set = g.T.BitTest.holds c.args.known.now in
    let bit = c.args.bit in
    c.is_found.ensures
    ∙ sym (support_split facts.file facts.rulings facts.program set bit ∙ ap (λ b. b || supports (other_rows facts.file facts.rulings facts.program) set bit) (sym c.is_carried.ensures ∙ c.if-is_carried.false))
