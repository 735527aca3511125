use Rattle.std.proofs.Common.{refl}
use Rattle.rh_meaning.specs.Literal.{equals}
use Rattle.rh_meaning.specs.Meaning.{meaning_tree}
use Rattle.rh_meaning.specs.Tree.{Tree, KindOf, Leaf}
use Rattle.rh_meaning.proofs.Put.{kind_put, lit_put}
use Rattle.rh_meaning.proofs.atoms.kind_at.Goals as goal

pub returns-clause-put : goal.returns-clause-put
returns-clause-put c = λ params fit tree stands.
    let value : Tree = meaning_tree params c.args.args.now tree c.args.term in
    lit_put c.args.terms.now c.put.new.terms c.put-2.new.terms (equals (KindOf value) (Leaf c.args.kind)) _ c.in_ok-left.left c.in_ok-right.right
    (kind_put c.args.terms.now c.term_at.new.terms c.put.new.terms value c.in_ok-value.value c.in_ok-left.left (c.in_ok-value.ensures.put params fit tree stands) c.in_ok-left.ensures.put)
    c.in_ok-right.ensures.put refl
