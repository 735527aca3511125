use Rattle.std.proofs.Common.{refl}
use Rattle.rh_term.specs.declared.term.Term.TheVariants.{Addr}
use Rattle.rh_meaning.specs.Literal.{unheld_tree}
use Rattle.rh_meaning.specs.Tree.{Leaf}
use Rattle.rh_meaning.proofs.Put.{lit_put, unheld_put}
use Rattle.rh_meaning.proofs.atoms.unheld_at.Goals as goal

pub returns-clause-put : goal.returns-clause-put
returns-clause-put c = λ tree stands.
    lit_put c.args.terms.now c.put-2.new.terms c.put-3.new.terms (unheld_tree tree (Leaf (Addr c.args.meta))) _ c.in_ok-left.left c.in_ok-right.right
    (unheld_put c.args.terms.now c.put.new.terms c.put-2.new.terms tree (Leaf (Addr c.args.meta)) c.args.store c.in_ok-address.address c.in_ok-left.left stands c.in_ok-address.ensures.put c.in_ok-left.ensures.put)
    c.in_ok-right.ensures.put refl
