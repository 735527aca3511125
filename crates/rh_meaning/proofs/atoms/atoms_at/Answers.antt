use Rattle.std.proofs.Common.{◌≡◌, true, map, sym, subst}
use Rattle.rh_rule.specs.Kinds.{args_fit}
use Rattle.rh_meaning.specs.Atoms.{ArePut, tree_at}
use Rattle.rh_meaning.specs.Meaning.{atom_literal}
use Rattle.rh_meaning.specs.Tree.{Tree}
use Rattle.rh_meaning.proofs.Steps.{ok_with}
use Rattle.rh_meaning.proofs.TreeAt.{store_tree_at}
use Rattle.rh_meaning.proofs.atoms.atoms_at.Goals as goal

pub returns-clause-put : goal.returns-clause-put
returns-clause-put c =
    let tree : Tree = tree_at c.args.terms.now c.args.store in
    let at = store_tree_at c.args.terms.now c.is_term_list.ensures c.args.store c.requires.store in
    ok_with _ _ c.atoms_in.result
    (λ lits put params fit. subst (λ atoms. ArePut c.args.terms.now c.atoms_in.new.terms (map (atom_literal params c.args.args.now tree) atoms) lits.items) c.as_slice-2.ensures.value
    (put params (subst (λ places. args_fit params places c.args.args.now ≡ true) (sym c.as_slice.ensures.value) fit) tree at.stands))
    c.atoms_in.ensures.put
