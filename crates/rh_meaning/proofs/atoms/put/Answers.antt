use Rattle.rh_meaning.proofs.Steps.{added_put}
use Rattle.rh_meaning.proofs.atoms.put.Goals as goal

pub returns-clause-put : goal.returns-clause-put
returns-clause-put c = added_put c.args.terms.now c.add.new.self c.args.term c.in_ok-place.place c.is_term_list.ensures c.in_ok-place.ensures.ok
