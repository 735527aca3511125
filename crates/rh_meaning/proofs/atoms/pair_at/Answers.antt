use Rattle.std.proofs.Common.{refl}
use Rattle.rh_meaning.specs.Literal.{pair_lit}
use Rattle.rh_meaning.specs.Meaning.{meaning_tree}
use Rattle.rh_meaning.proofs.Put.{lit_put, stands_longer}
use Rattle.rh_meaning.proofs.atoms.pair_at.Goals as goal

pub returns-clause-put : goal.returns-clause-put
returns-clause-put c = λ params fit tree stands.
    lit_put c.args.terms.now c.term_at.new.terms c.term_at-2.new.terms
    (pair_lit (meaning_tree params c.args.args.now tree c.args.left) (meaning_tree params c.args.args.now tree c.args.right) c.args.equal) _ c.in_ok-left.left c.in_ok-right.right
    (c.in_ok-left.ensures.put params fit tree stands)
    (c.in_ok-right.ensures.put params fit tree (stands_longer c.args.terms.now c.term_at.new.terms c.args.store tree c.term_at.ensures.grown stands)) refl
