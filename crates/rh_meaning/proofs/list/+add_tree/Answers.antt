use Rattle.std.proofs.Common.{◌≡◌, true, rules}
use Rattle.rh_meaning.specs.Sorts.{is_value_tree, is_store_tree}
use Rattle.rh_meaning.specs.View.{tree_of}
use Rattle.rh_meaning.proofs.Added.{last_in, before_in, first_in, store_part, value_part}
use Rattle.rh_meaning.proofs.list.+add_tree.Goals as goal

pub tree_place-requires : goal.tree_place-requires
tree_place-requires t c = before_in _ _ _ (tree_of c.deref-store.result.now) (tree_of c.deref-address.result.now) c.in_ok-add_tree-in-Select.ensures.added c.in_ok-add_tree-in-Select-2.ensures.added

pub tree_place-requires-in-Select : goal.tree_place-requires-in-Select
tree_place-requires-in-Select t c = last_in _ _ (tree_of c.deref-address.result.now) c.in_ok-add_tree-in-Select-2.ensures.added

pub add-requires-in-Select-clause-parts : goal.add-requires-in-Select-clause-parts
add-requires-in-Select-clause-parts t c =
    let stored : is_store_tree (tree_of c.deref-store.result.now) ≡ true = search rules in
    let valued : is_value_tree (tree_of c.deref-address.result.now) ≡ true = search rules in (
      store_part _ (tree_of c.deref-store.result.now) _ c.tree_place.ensures (before_in _ _ _ (tree_of c.deref-store.result.now) (tree_of c.deref-address.result.now) c.in_ok-add_tree-in-Select.ensures.added c.in_ok-add_tree-in-Select-2.ensures.added) stored,
      value_part _ (tree_of c.deref-address.result.now) _ c.tree_place-in-Select.ensures (last_in _ _ (tree_of c.deref-address.result.now) c.in_ok-add_tree-in-Select-2.ensures.added) valued,
    )

pub tree_place-requires-in-Update : goal.tree_place-requires-in-Update
tree_place-requires-in-Update t c =
    first_in _ _ _ _ (tree_of c.deref-store-in-Update.result.now) (tree_of c.deref-address-in-Update.result.now) (tree_of c.deref-value.result.now) c.in_ok-add_tree-in-Update.ensures.added c.in_ok-add_tree-in-Update-2.ensures.added c.in_ok-add_tree-in-Update-3.ensures.added

pub tree_place-requires-in-Update-2 : goal.tree_place-requires-in-Update-2
tree_place-requires-in-Update-2 t c = before_in _ _ _ (tree_of c.deref-address-in-Update.result.now) (tree_of c.deref-value.result.now) c.in_ok-add_tree-in-Update-2.ensures.added c.in_ok-add_tree-in-Update-3.ensures.added

pub tree_place-requires-in-Update-3 : goal.tree_place-requires-in-Update-3
tree_place-requires-in-Update-3 t c = last_in _ _ (tree_of c.deref-value.result.now) c.in_ok-add_tree-in-Update-3.ensures.added

pub add-requires-in-Update-clause-parts : goal.add-requires-in-Update-clause-parts
add-requires-in-Update-clause-parts t c =
    let stored : is_store_tree (tree_of c.deref-store-in-Update.result.now) ≡ true = search rules in
    let addressed : is_value_tree (tree_of c.deref-address-in-Update.result.now) ≡ true = search rules in
    let valued : is_value_tree (tree_of c.deref-value.result.now) ≡ true = search rules in (
      store_part _ (tree_of c.deref-store-in-Update.result.now) _ c.tree_place-in-Update.ensures (first_in _ _ _ _ (tree_of c.deref-store-in-Update.result.now) (tree_of c.deref-address-in-Update.result.now) (tree_of c.deref-value.result.now) c.in_ok-add_tree-in-Update.ensures.added c.in_ok-add_tree-in-Update-2.ensures.added c.in_ok-add_tree-in-Update-3.ensures.added) stored,
      value_part _ (tree_of c.deref-address-in-Update.result.now) _ c.tree_place-in-Update-2.ensures (before_in _ _ _ (tree_of c.deref-address-in-Update.result.now) (tree_of c.deref-value.result.now) c.in_ok-add_tree-in-Update-2.ensures.added c.in_ok-add_tree-in-Update-3.ensures.added) addressed,
      value_part _ (tree_of c.deref-value.result.now) _ c.tree_place-in-Update-3.ensures (last_in _ _ (tree_of c.deref-value.result.now) c.in_ok-add_tree-in-Update-3.ensures.added) valued,
    )

pub tree_place-requires-in-Compute : goal.tree_place-requires-in-Compute
tree_place-requires-in-Compute t c = before_in _ _ _ (tree_of c.deref-left.result.now) (tree_of c.deref-right.result.now) c.in_ok-add_tree-in-Compute.ensures.added c.in_ok-add_tree-in-Compute-2.ensures.added

pub tree_place-requires-in-Compute-2 : goal.tree_place-requires-in-Compute-2
tree_place-requires-in-Compute-2 t c = last_in _ _ (tree_of c.deref-right.result.now) c.in_ok-add_tree-in-Compute-2.ensures.added

pub add-requires-in-Compute-clause-parts : goal.add-requires-in-Compute-clause-parts
add-requires-in-Compute-clause-parts t c =
    let lefts : is_value_tree (tree_of c.deref-left.result.now) ≡ true = search rules in
    let rights : is_value_tree (tree_of c.deref-right.result.now) ≡ true = search rules in (
      value_part _ (tree_of c.deref-left.result.now) _ c.tree_place-in-Compute.ensures (before_in _ _ _ (tree_of c.deref-left.result.now) (tree_of c.deref-right.result.now) c.in_ok-add_tree-in-Compute.ensures.added c.in_ok-add_tree-in-Compute-2.ensures.added) lefts,
      value_part _ (tree_of c.deref-right.result.now) _ c.tree_place-in-Compute-2.ensures (last_in _ _ (tree_of c.deref-right.result.now) c.in_ok-add_tree-in-Compute-2.ensures.added) rights,
    )

pub tree_place-requires-in-KindOf : goal.tree_place-requires-in-KindOf
tree_place-requires-in-KindOf t c = last_in _ _ (tree_of c.deref-value-in-KindOf.result.now) c.in_ok-add_tree-in-KindOf.ensures.added

pub add-requires-in-KindOf-clause-parts : goal.add-requires-in-KindOf-clause-parts
add-requires-in-KindOf-clause-parts t c =
    let valued : is_value_tree (tree_of c.deref-value-in-KindOf.result.now) ≡ true = search rules in
    value_part _ (tree_of c.deref-value-in-KindOf.result.now) _ c.tree_place-in-KindOf.ensures (last_in _ _ (tree_of c.deref-value-in-KindOf.result.now) c.in_ok-add_tree-in-KindOf.ensures.added) valued

pub tree_place-requires-in-Unheld : goal.tree_place-requires-in-Unheld
tree_place-requires-in-Unheld t c = before_in _ _ _ (tree_of c.deref-store-in-Unheld.result.now) (tree_of c.deref-value-in-Unheld.result.now) c.in_ok-add_tree-in-Unheld.ensures.added c.in_ok-add_tree-in-Unheld-2.ensures.added

pub tree_place-requires-in-Unheld-2 : goal.tree_place-requires-in-Unheld-2
tree_place-requires-in-Unheld-2 t c = last_in _ _ (tree_of c.deref-value-in-Unheld.result.now) c.in_ok-add_tree-in-Unheld-2.ensures.added

pub add-requires-in-Unheld-clause-parts : goal.add-requires-in-Unheld-clause-parts
add-requires-in-Unheld-clause-parts t c =
    let stored : is_store_tree (tree_of c.deref-store-in-Unheld.result.now) ≡ true = search rules in
    let valued : is_value_tree (tree_of c.deref-value-in-Unheld.result.now) ≡ true = search rules in (
      store_part _ (tree_of c.deref-store-in-Unheld.result.now) _ c.tree_place-in-Unheld.ensures (before_in _ _ _ (tree_of c.deref-store-in-Unheld.result.now) (tree_of c.deref-value-in-Unheld.result.now) c.in_ok-add_tree-in-Unheld.ensures.added c.in_ok-add_tree-in-Unheld-2.ensures.added) stored,
      value_part _ (tree_of c.deref-value-in-Unheld.result.now) _ c.tree_place-in-Unheld-2.ensures (last_in _ _ (tree_of c.deref-value-in-Unheld.result.now) c.in_ok-add_tree-in-Unheld-2.ensures.added) valued,
    )
