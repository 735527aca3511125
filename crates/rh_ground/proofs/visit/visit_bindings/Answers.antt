use Rattle.std.proofs.Common.{◌++◌, map, ap, ◌∙◌, subst}
use Rattle.rh_domain.specs.Binding.{Binding, bindings_in}
use Rattle.rh_ground.specs.Visit.{VisitsWanted}
use Rattle.rh_ground.proofs.Visiting.{all_of_them}
use Rattle.rh_ground.proofs.visit.visit_bindings.Goals as goal

pub returns : goal.returns
returns g c =
    let visits = g.V.Visitor.visits c.args.visitor.now in
    let accepts = g.V.Wanted.accepts c.args.visitor.now in
    let all = bindings_in c.args.domain.now c.args.params.now in
    let from_nothing = ap (λ (front : Binding). map (λ rest. front ++ rest) all) c.new.ensures ∙ all_of_them all in
    subst (λ bindings. VisitsWanted visits accepts bindings c.args.kept.now c.visit_after.new.kept) from_nothing c.visit_after.ensures.visited
