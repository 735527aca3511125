use Rattle.std.proofs.Common.{◌≡◌, List, length, arith, ap, sym, subst, ◌∙◌}
use Rattle.rh_term.specs.declared.term.Term.{Term}
use Rattle.rh_oblig.specs.TermList.{AreFit, leaves_of}
use Rattle.rh_oblig.proofs.Build.{leaves_are_fit}
use Rattle.rh_oblig.proofs.Leaves.{leaves_fit, leaves_size}
use Rattle.rh_oblig.proofs.term_list.add_leaves.Goals as goal

pub add_all-requires-clause-room : goal.add_all-requires-clause-room
add_all-requires-clause-room c =
    let leaves : List Term = leaves_of c.args.params.now c.args.pattern in
    let listed : c.as_slice.result.now ≡ leaves = c.as_slice.ensures.value ∙ c.in_ok-leaves_of.ensures in
    omega (arith, ap length listed, leaves_size leaves, c.requires.room)

pub add_all-requires-clause-fit : goal.add_all-requires-clause-fit
add_all-requires-clause-fit c =
    subst (AreFit c.args.terms.now) (sym (c.as_slice.ensures.value ∙ c.in_ok-leaves_of.ensures))
    (leaves_are_fit c.args.terms.now (leaves_of c.args.params.now c.args.pattern) (leaves_fit c.args.params.now c.args.pattern))
