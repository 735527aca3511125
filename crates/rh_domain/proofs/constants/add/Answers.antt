use Rattle.std.proofs.Common.{ℤ, ◌≡◌, ◌∙◌, subst, w64}
use Rattle.std.proofs.lemmas.Int.{to_z-of_z}
use Rattle.std.specs.BTreeSet.{insert_key}
use Rattle.std.specs.Ordering.{int_cmp}
use Rattle.rh_domain.proofs.Keys.{inserted}
use Rattle.rh_domain.proofs.constants.add.Goals as goal

pub returns : goal.returns
returns c =
    subst (λ (number : ℤ). c.insert.new.self.keys ≡ insert_key int_cmp c.args.known.now.keys number) (to_z-of_z w64 c.args.number c.ranges.number) c.in_ok-insert.ensures.keys
    ∙ inserted c.args.number c.args.known.now.keys
