use Rattle.rh_term.specs.declared.term.Term.TheVariants.{Addr}
use Rattle.rh_meaning.specs.Tree.{Leaf, Select}
use Rattle.rh_meaning.proofs.Put.{select_put}
use Rattle.rh_meaning.proofs.Steps.{ok_with}
use Rattle.rh_meaning.proofs.atoms.pointee_at.Goals as goal

pub returns-clause-put : goal.returns-clause-put
returns-clause-put c =
    ok_with _ _ c.put.result
    (λ place put tree stands. select_put c.args.terms.now c.variable_at.new.terms c.put.new.terms tree (Select tree (Leaf (Addr c.args.meta))) c.args.store c.in_ok-address.address place stands (c.in_ok-address.ensures.put tree stands) put)
    c.put.ensures.put
