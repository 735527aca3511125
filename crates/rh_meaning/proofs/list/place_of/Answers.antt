use Rattle.rh_meaning.proofs.Places.{place_found}
use Rattle.rh_meaning.proofs.list.place_of.Goals as goal

pub unreachable-requires : goal.unreachable-requires
unreachable-requires c = c.in-None.ensures.missing _ (place_found c.args.terms.now c.args.term c.requires)

pub returns : goal.returns
returns c =
    c.is_term_list.ensures.different c.in-Some.place _ c.args.term c.in-Some.ensures.found (place_found c.args.terms.now c.args.term c.requires)
