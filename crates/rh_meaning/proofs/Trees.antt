-- Trees in lists of terms.
use Rattle.std.proofs.Common.{◌≡◌, ◌+◌, ◌<◌, ◌≤◌, List, ◌++◌, length, refl, ap, sym, subst, ◌∙◌, arith}
use Rattle.std.proofs.lemmas.List.{length-append}
use Rattle.rh_term.specs.declared.term.Term.{Term}
use Rattle.rh_term.specs.declared.term.Term.TheVariants.{Sel, Upd, Op as Computed, Kind, Una}
use Rattle.rh_meaning.specs.Sorts.{IsIn, tree_size}
use Rattle.rh_meaning.specs.Tree.{Extends, Tree, Leaf, Select, Update, Compute, KindOf, Unheld, place_of, tree_place, with_term, with_tree}
use Rattle.rh_meaning.proofs.Places.{extends_further, place_longer, with_term_few, with_term_has}

-- a tree keeps its place where the list grows
pub place_stays : (terms more : List Term) (tree : Tree) → IsIn terms tree → tree_place (terms ++ more) tree ≡ tree_place terms tree
place_stays terms more (Leaf term) is_in = place_longer terms more term is_in
place_stays terms more (Select store address) is_in =
    ap (λ s. place_of (terms ++ more) (Sel s (tree_place (terms ++ more) address))) (place_stays terms more store is_in.0)
    ∙ ap (λ a. place_of (terms ++ more) (Sel (tree_place terms store) a)) (place_stays terms more address is_in.1)
    ∙ place_longer terms more (Sel (tree_place terms store) (tree_place terms address)) is_in.2
place_stays terms more (Update store address value) is_in =
    ap (λ s. place_of (terms ++ more) (Upd s (tree_place (terms ++ more) address) (tree_place (terms ++ more) value))) (place_stays terms more store is_in.0)
    ∙ ap (λ a. place_of (terms ++ more) (Upd (tree_place terms store) a (tree_place (terms ++ more) value))) (place_stays terms more address is_in.1)
    ∙ ap (λ v. place_of (terms ++ more) (Upd (tree_place terms store) (tree_place terms address) v)) (place_stays terms more value is_in.2)
    ∙ place_longer terms more (Upd (tree_place terms store) (tree_place terms address) (tree_place terms value)) is_in.3
place_stays terms more (Compute op left right) is_in =
    ap (λ l. place_of (terms ++ more) (Computed op l (tree_place (terms ++ more) right))) (place_stays terms more left is_in.0)
    ∙ ap (λ r. place_of (terms ++ more) (Computed op (tree_place terms left) r)) (place_stays terms more right is_in.1)
    ∙ place_longer terms more (Computed op (tree_place terms left) (tree_place terms right)) is_in.2
place_stays terms more (KindOf value) is_in =
    ap (λ v. place_of (terms ++ more) (Kind v)) (place_stays terms more value is_in.0)
    ∙ place_longer terms more (Kind (tree_place terms value)) is_in.1
place_stays terms more (Unheld store value) is_in =
    ap (λ s. place_of (terms ++ more) (Una s (tree_place (terms ++ more) value))) (place_stays terms more store is_in.0)
    ∙ ap (λ v. place_of (terms ++ more) (Una (tree_place terms store) v)) (place_stays terms more value is_in.1)
    ∙ place_longer terms more (Una (tree_place terms store) (tree_place terms value)) is_in.2

longer : (terms more : List Term) → length terms ≤ length (terms ++ more)
longer terms more = omega (arith, length-append terms more)

within_longer : (terms more : List Term) (tree : Tree) → IsIn terms tree → tree_place terms tree < length terms → tree_place (terms ++ more) tree < length (terms ++ more)
within_longer terms more tree is_in within =
    subst (λ p. p < length (terms ++ more)) (sym (place_stays terms more tree is_in)) (let bound = longer terms more in omega arith)

-- and stays in the list
stays_behind : (terms more : List Term) (tree : Tree) → IsIn terms tree → IsIn (terms ++ more) tree
stays_behind terms more (Leaf term) is_in = within_longer terms more (Leaf term) is_in is_in
stays_behind terms more (Select store address) is_in =
    (stays_behind terms more store is_in.0, stays_behind terms more address is_in.1, within_longer terms more (Select store address) is_in is_in.2)
stays_behind terms more (Update store address value) is_in =
    (stays_behind terms more store is_in.0, stays_behind terms more address is_in.1, stays_behind terms more value is_in.2, within_longer terms more (Update store address value) is_in is_in.3)
stays_behind terms more (Compute op left right) is_in =
    (stays_behind terms more left is_in.0, stays_behind terms more right is_in.1, within_longer terms more (Compute op left right) is_in is_in.2)
stays_behind terms more (KindOf value) is_in = (stays_behind terms more value is_in.0, within_longer terms more (KindOf value) is_in is_in.1)
stays_behind terms more (Unheld store value) is_in =
    (stays_behind terms more store is_in.0, stays_behind terms more value is_in.1, within_longer terms more (Unheld store value) is_in is_in.2)

pub stays_in : (old new : List Term) (tree : Tree) → Extends old new → IsIn old tree → IsIn new tree
stays_in old new tree grown is_in = subst (λ (terms : List Term). IsIn terms tree) (sym grown.is) (stays_behind old grown.more tree is_in)

pub place_same : (old new : List Term) (tree : Tree) → Extends old new → IsIn old tree → tree_place new tree ≡ tree_place old tree
place_same old new tree grown is_in = ap (λ (terms : List Term). tree_place terms tree) grown.is ∙ place_stays old grown.more tree is_in

-- a list with a tree has it, and is the old one with more behind it
pub record Has (old new : List Term) (tree : Tree) : Type 0 where
  pub grown : Extends old new
  pub is_in : IsIn new tree

-- the place of a head stays where the places of its parts stay
head_place : (parts new : List Term) (term other : Term) → new ≡ with_term parts term → other ≡ term → place_of new other < length new
head_place parts new term other is same =
    subst (λ (t : Term). place_of new t < length new) (sym same) (subst (λ (terms : List Term). place_of terms term < length terms) (sym is) (with_term_has parts term).1)

-- a list with a tree has it
pub with_tree_has : (terms : List Term) (tree : Tree) → Has terms (with_tree terms tree) tree
with_tree_has terms (Leaf term) = record { grown = (with_term_has terms term).0; is_in = (with_term_has terms term).1 }
with_tree_has terms (Select store address) =
    let stored : List Term = with_tree terms store in
    let parts : List Term = with_tree stored address in
    let term : Term = Sel (tree_place parts store) (tree_place parts address) in
    let new : List Term = with_term parts term in
    let first : Has terms stored store = with_tree_has terms store in
    let second : Has stored parts address = with_tree_has stored address in
    let last : Extends parts new = (with_term_has parts term).0 in
    let store_in : IsIn parts store = stays_in stored parts store second.grown first.is_in in
    let one : tree_place new store ≡ tree_place parts store = place_same parts new store last store_in in
    let two : tree_place new address ≡ tree_place parts address = place_same parts new address last second.is_in in
    record {
      grown = extends_further first.grown (extends_further second.grown last);
      is_in = (stays_in parts new store last store_in, stays_in parts new address last second.is_in, head_place parts new term _ refl (ap (λ s. Sel s (tree_place new address)) one ∙ ap (Sel (tree_place parts store)) two));
    }
with_tree_has terms (Update store address value) =
    let stored : List Term = with_tree terms store in
    let addressed : List Term = with_tree stored address in
    let parts : List Term = with_tree addressed value in
    let term : Term = Upd (tree_place parts store) (tree_place parts address) (tree_place parts value) in
    let new : List Term = with_term parts term in
    let first : Has terms stored store = with_tree_has terms store in
    let second : Has stored addressed address = with_tree_has stored address in
    let third : Has addressed parts value = with_tree_has addressed value in
    let last : Extends parts new = (with_term_has parts term).0 in
    let store_in : IsIn parts store = stays_in stored parts store (extends_further second.grown third.grown) first.is_in in
    let address_in : IsIn parts address = stays_in addressed parts address third.grown second.is_in in
    let one : tree_place new store ≡ tree_place parts store = place_same parts new store last store_in in
    let two : tree_place new address ≡ tree_place parts address = place_same parts new address last address_in in
    let three : tree_place new value ≡ tree_place parts value = place_same parts new value last third.is_in in
    record {
      grown = extends_further first.grown (extends_further second.grown (extends_further third.grown last));
      is_in = (stays_in parts new store last store_in, stays_in parts new address last address_in, stays_in parts new value last third.is_in, head_place parts new term _ refl (ap (λ s. Upd s (tree_place new address) (tree_place new value)) one ∙ ap (λ a. Upd (tree_place parts store) a (tree_place new value)) two ∙ ap (Upd (tree_place parts store) (tree_place parts address)) three));
    }
with_tree_has terms (Compute op left right) =
    let lefts : List Term = with_tree terms left in
    let parts : List Term = with_tree lefts right in
    let term : Term = Computed op (tree_place parts left) (tree_place parts right) in
    let new : List Term = with_term parts term in
    let first : Has terms lefts left = with_tree_has terms left in
    let second : Has lefts parts right = with_tree_has lefts right in
    let last : Extends parts new = (with_term_has parts term).0 in
    let left_in : IsIn parts left = stays_in lefts parts left second.grown first.is_in in
    let one : tree_place new left ≡ tree_place parts left = place_same parts new left last left_in in
    let two : tree_place new right ≡ tree_place parts right = place_same parts new right last second.is_in in
    record {
      grown = extends_further first.grown (extends_further second.grown last);
      is_in = (stays_in parts new left last left_in, stays_in parts new right last second.is_in, head_place parts new term _ refl (ap (λ l. Computed op l (tree_place new right)) one ∙ ap (Computed op (tree_place parts left)) two));
    }
with_tree_has terms (KindOf value) =
    let parts : List Term = with_tree terms value in
    let term : Term = Kind (tree_place parts value) in
    let new : List Term = with_term parts term in
    let first : Has terms parts value = with_tree_has terms value in
    let last : Extends parts new = (with_term_has parts term).0 in
    let one : tree_place new value ≡ tree_place parts value = place_same parts new value last first.is_in in
    record {
      grown = extends_further first.grown last;
      is_in = (stays_in parts new value last first.is_in, head_place parts new term _ refl (ap Kind one));
    }
with_tree_has terms (Unheld store value) =
    let stored : List Term = with_tree terms store in
    let parts : List Term = with_tree stored value in
    let term : Term = Una (tree_place parts store) (tree_place parts value) in
    let new : List Term = with_term parts term in
    let first : Has terms stored store = with_tree_has terms store in
    let second : Has stored parts value = with_tree_has stored value in
    let last : Extends parts new = (with_term_has parts term).0 in
    let store_in : IsIn parts store = stays_in stored parts store second.grown first.is_in in
    let one : tree_place new store ≡ tree_place parts store = place_same parts new store last store_in in
    let two : tree_place new value ≡ tree_place parts value = place_same parts new value last second.is_in in
    record {
      grown = extends_further first.grown (extends_further second.grown last);
      is_in = (stays_in parts new store last store_in, stays_in parts new value last second.is_in, head_place parts new term _ refl (ap (λ s. Una s (tree_place new value)) one ∙ ap (Una (tree_place parts store)) two));
    }

-- and has at most the terms of the tree more
pub with_tree_few : (terms : List Term) (tree : Tree) → length (with_tree terms tree) ≤ length terms + tree_size tree
with_tree_few terms (Leaf term) = with_term_few terms term
with_tree_few terms (Select store address) =
    let stored : List Term = with_tree terms store in
    let parts : List Term = with_tree stored address in
    omega (arith, with_tree_few terms store, with_tree_few stored address, with_term_few parts (Sel (tree_place parts store) (tree_place parts address)))
with_tree_few terms (Update store address value) =
    let stored : List Term = with_tree terms store in
    let addressed : List Term = with_tree stored address in
    let parts : List Term = with_tree addressed value in
    omega (
      arith,
      with_tree_few terms store,
      with_tree_few stored address,
      with_tree_few addressed value,
      with_term_few parts (Upd (tree_place parts store) (tree_place parts address) (tree_place parts value)),
    )
with_tree_few terms (Compute op left right) =
    let lefts : List Term = with_tree terms left in
    let parts : List Term = with_tree lefts right in
    omega (arith, with_tree_few terms left, with_tree_few lefts right, with_term_few parts (Computed op (tree_place parts left) (tree_place parts right)))
with_tree_few terms (KindOf value) =
    let parts : List Term = with_tree terms value in
    omega (arith, with_tree_few terms value, with_term_few parts (Kind (tree_place parts value)))
with_tree_few terms (Unheld store value) =
    let stored : List Term = with_tree terms store in
    let parts : List Term = with_tree stored value in
    omega (arith, with_tree_few terms store, with_tree_few stored value, with_term_few parts (Una (tree_place parts store) (tree_place parts value)))
