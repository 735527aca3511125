use Rattle.rh_meaning.specs.Meaning.{meaning_operand}
use Rattle.rh_meaning.proofs.Put.{compute_put, stands_longer}
use Rattle.rh_meaning.proofs.Steps.{ok_with}
use Rattle.rh_meaning.proofs.atoms.computed_at.Goals as goal

pub returns-clause-put : goal.returns-clause-put
returns-clause-put c =
    ok_with _ _ c.put.result
    (λ place put params fit tree stands.
    compute_put c.args.op c.args.terms.now c.operand_at.new.terms c.operand_at-2.new.terms c.put.new.terms
    (meaning_operand params c.args.args.now tree c.args.left) (meaning_operand params c.args.args.now tree c.args.right) c.in_ok-left.left c.in_ok-right.right place
    (c.in_ok-left.ensures.put params fit tree stands)
    (c.in_ok-right.ensures.put params fit tree (stands_longer c.args.terms.now c.operand_at.new.terms c.args.store tree c.operand_at.ensures.grown stands)) put)
    c.put.ensures.put
