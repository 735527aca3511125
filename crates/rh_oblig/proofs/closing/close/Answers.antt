use Rattle.std.proofs.Common.{◌<◌, ◌≤◌, ◌*◌, ◌-◌, List, length, fold, sym, subst, ◌∙◌, ap, arith}
use Rattle.rh_meaning.specs.Tree.{with_term}
use Rattle.rh_oblig.specs.TermList.{AreFit, closed}
use Rattle.rh_term.specs.declared.term.Term.{Term}
use Rattle.rh_oblig.proofs.Walks.{from_few, from_fits, walk_step, walked_longer}
use Rattle.rh_oblig.proofs.closing.close.Goals as goal

pub add_all-requires-clause-room : goal.add_all-requires-clause-room
add_all-requires-clause-room c =
    let listed : length c.as_slice.result.now ≤ 2 = subst (λ (others : List Term). length others ≤ 2) (sym (c.as_slice.ensures.value ∙ c.in_ok-terms_from.ensures))
    (from_few c.loop-place.terms c.loop-place.place c.in-Some.term) in
    let most : length c.loop-place.terms ≤ length (closed c.args.terms.now) =
    subst (λ (terms : List Term). length c.loop-place.terms ≤ length terms) c.loop-place.invariant
    (walked_longer (4 * length c.args.terms.now - c.loop-place.place) c.loop-place.terms c.loop-place.place) in
    omega (arith, listed, most, c.requires)

pub add_all-requires-clause-fit : goal.add_all-requires-clause-fit
add_all-requires-clause-fit c =
    subst (AreFit c.loop-place.terms) (sym (c.as_slice.ensures.value ∙ c.in_ok-terms_from.ensures))
    (from_fits c.loop-place.terms c.loop-place.place c.in-Some.term c.in-Some.ensures.list (sym c.in-Some.ensures.value))

pub loop-place-preserved : goal.loop-place-preserved
loop-place-preserved c =
    let within : c.loop-place.place < 4 * length c.args.terms.now = omega (arith, c.from-place-end.ensures, c.len.ensures.len, c.loop-place-test.true) in
    walk_step (4 * length c.args.terms.now) c.loop-place.terms c.add_all.new.terms c.loop-place.place c.in-Some.term within (sym c.in-Some.ensures.value)
    (c.in_ok-add_all.ensures ∙ ap (fold with_term c.loop-place.terms) (c.as_slice.ensures.value ∙ c.in_ok-terms_from.ensures))
    ∙ c.loop-place.invariant
