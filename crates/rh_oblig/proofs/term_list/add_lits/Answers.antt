use Rattle.std.proofs.Common.{◌≡◌, ◌+◌, List, drop, get_or, ap, ◌∙◌}
use Rattle.std.specs.List.{flat_map}
use Rattle.rh_meaning.specs.Literal.{literal_trees}
use Rattle.rh_meaning.specs.Tree.{Tree}
use Rattle.rh_meaning.specs.View.{lit_of, lits_of}
use Rattle.rh_meaning.specs.declared.literal.TreeLit.{TreeLit as BuiltLit}
use Rattle.rh_oblig.specs.TermList.{with_trees}
use Rattle.rh_oblig.proofs.Build.{adds_piece, lits_cut}
use Rattle.rh_oblig.proofs.term_list.add_lits.Goals as goal

pub loop-lit-preserved : goal.loop-lit-preserved
loop-lit-preserved c =
    let lits : List BuiltLit = c.args.lits.now in
    let item : BuiltLit = c.lit-item.result in
    let i = c.loop-lit.lit-index in
    let old = c.loop-lit.invariant in
    let piece : List Tree = literal_trees (lit_of (get_or lits i item)) in
    let added : c.add_lit.new.terms ≡ with_trees c.loop-lit.terms piece =
    c.in_ok-add_lit.ensures ∙ ap (λ (lit : BuiltLit). with_trees c.loop-lit.terms (literal_trees (lit_of lit))) c.lit-item.is in
    let step = adds_piece c.loop-lit.terms c.add_lit.new.terms (flat_map literal_trees (lits_of (drop i lits))) piece (flat_map literal_trees (lits_of (drop (i + 1) lits)))
    (lits_cut lits i item c.loop-lit-test.true) added old.sorted old.room in
    record { same = step.same ∙ old.same; sorted = step.sorted; room = step.room }
