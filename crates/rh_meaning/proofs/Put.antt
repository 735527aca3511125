-- Trees that were put into a list, by the places of their parts.
use Rattle.std.proofs.Common.{ℕ, ◌≡◌, ◌<◌, ◌+◌, Bool, if◌then◌else◌, List, [], ◌∷◌, ◌++◌, get_or, length, take, map, refl, ap, sym, subst, ◌∙◌, arith}
use Rattle.std.specs.Prelude.{fold}
use Rattle.std.specs.List.{AllByRecursion, flat_map}
use Rattle.std.proofs.lemmas.Grind.{flat_map-append, fold-append}
use Rattle.std.proofs.lemmas.List.{map-append, take_more}
use Rattle.std.proofs.lemmas.Bool.{ne_eqb}
use Rattle.rh_il.specs.declared.value.Op.{Op}
use Rattle.rh_term.specs.declared.clause.Lit.{Lit}
use Rattle.rh_term.specs.declared.term.Term.{Term}
use Rattle.rh_term.specs.declared.term.Term.TheVariants.{Sel, Upd, Op as Computed, Kind, Una}
use Rattle.rh_meaning.specs.Atoms.{ArePut, IsLitPut, IsPut, StandsAt}
use Rattle.rh_meaning.specs.Literal.{TreeLit, literal_trees}
use Rattle.rh_meaning.specs.Placed.{lit_in}
use Rattle.rh_meaning.specs.Sorts.{IsIn}
use Rattle.rh_meaning.specs.Tree.{Extends, Tree, Leaf, Select, Update, Compute, KindOf, Unheld, place_of, tree_place, with_term, with_tree}
use Rattle.rh_meaning.proofs.Places.{extends_further, extends_itself}
use Rattle.rh_meaning.proofs.Trees.{place_same, stays_in, with_tree_has}

-- ---- a list that has a tree is the list with the tree

term_there : (terms : List Term) (term : Term) → place_of terms term < length terms → with_term terms term ≡ terms
term_there terms term within =
    ap (λ (test : Bool). if test then terms ++ term ∷ [] else terms) (ne_eqb (place_of terms term) (length terms) (λ same. omega (arith, within, same)))

parts_there : (terms parts : List Term) (head : List Term → Term) → parts ≡ terms → place_of terms (head terms) < length terms → with_term parts (head parts) ≡ terms
parts_there terms parts head is within = ap (λ listed. with_term listed (head listed)) is ∙ term_there terms (head terms) within

pub tree_there : (terms : List Term) (tree : Tree) → IsIn terms tree → with_tree terms tree ≡ terms
tree_there terms (Leaf term) is_in = term_there terms term is_in
tree_there terms (Select store address) is_in =
    parts_there terms (with_tree (with_tree terms store) address) (λ listed. Sel (tree_place listed store) (tree_place listed address))
    (ap (λ listed. with_tree listed address) (tree_there terms store is_in.0) ∙ tree_there terms address is_in.1) is_in.2
tree_there terms (Update store address value) is_in =
    parts_there terms (with_tree (with_tree (with_tree terms store) address) value)
    (λ listed. Upd (tree_place listed store) (tree_place listed address) (tree_place listed value))
    (ap (λ listed. with_tree (with_tree listed address) value) (tree_there terms store is_in.0) ∙ ap (λ listed. with_tree listed value) (tree_there terms address is_in.1) ∙ tree_there terms value is_in.2) is_in.3
tree_there terms (Compute op left right) is_in =
    parts_there terms (with_tree (with_tree terms left) right) (λ listed. Computed op (tree_place listed left) (tree_place listed right))
    (ap (λ listed. with_tree listed right) (tree_there terms left is_in.0) ∙ tree_there terms right is_in.1) is_in.2
tree_there terms (KindOf value) is_in =
    parts_there terms (with_tree terms value) (λ listed. Kind (tree_place listed value)) (tree_there terms value is_in.0) is_in.1
tree_there terms (Unheld store value) is_in =
    parts_there terms (with_tree (with_tree terms store) value) (λ listed. Una (tree_place listed store) (tree_place listed value))
    (ap (λ listed. with_tree listed value) (tree_there terms store is_in.0) ∙ tree_there terms value is_in.1) is_in.2

-- ---- one tree

pub stands_longer : (old new : List Term) (place : ℕ) (tree : Tree) → Extends old new → StandsAt old place tree → StandsAt new place tree
stands_longer old new place tree grown stands =
    record { is_in = stays_in old new tree grown stands.is_in; here = stands.here ∙ sym (place_same old new tree grown stands.is_in) }

-- a tree that stands in the list is put into it
pub stands_put : (terms : List Term) (place : ℕ) (tree : Tree) → StandsAt terms place tree → IsPut terms terms tree place
stands_put terms place tree stands = record { is = sym (tree_there terms tree stands.is_in); here = stands.here }

pub put_grown : (old new : List Term) (tree : Tree) (place : ℕ) → IsPut old new tree place → Extends old new
put_grown old new tree place put = subst (Extends old) (sym put.is) (with_tree_has old tree).grown

pub put_stands : (old new : List Term) (tree : Tree) (place : ℕ) → IsPut old new tree place → StandsAt new place tree
put_stands old new tree place put = record { is_in = subst (λ terms. IsIn terms tree) (sym put.is) (with_tree_has old tree).is_in; here = put.here }

-- a term over two trees: the trees, and then the term over their places
pub record ArePair (head : ℕ → ℕ → Term) (old new : List Term) (left right : Tree) (place : ℕ) : Type 0 where
  pub is : new
      ≡ with_term (with_tree (with_tree old left) right) (head (tree_place (with_tree (with_tree old left) right) left) (tree_place (with_tree (with_tree old left) right) right))
  pub here : place ≡ place_of new (head (tree_place new left) (tree_place new right))

pub pair_put : (head : ℕ → ℕ → Term) (old mid both new : List Term) (left right : Tree) (l r place : ℕ) → IsPut old mid left l → IsPut mid both right r → IsPut both new (Leaf (head l r)) place
    → ArePair head old new left right place
pair_put head old mid both new left right l r place first second last =
    let whole : with_tree (with_tree old left) right ≡ both = ap (λ terms. with_tree terms right) (sym first.is) ∙ sym second.is in
    let here : StandsAt both l left = stands_longer mid both l left (put_grown mid both right r second) (put_stands old mid left l first) in
    let grown : Extends both new = put_grown both new (Leaf (head l r)) place last in
    let left_now : StandsAt new l left = stands_longer both new l left grown here in
    let right_now : StandsAt new r right = stands_longer both new r right grown (put_stands mid both right r second) in
    record {
      is = last.is
          ∙ ap (λ a. with_term both (head a r)) here.here
          ∙ ap (λ b. with_term both (head (tree_place both left) b)) second.here
          ∙ ap (λ terms. with_term terms (head (tree_place terms left) (tree_place terms right))) (sym whole);
      here = last.here ∙ ap (λ a. place_of new (head a r)) left_now.here ∙ ap (λ b. place_of new (head (tree_place new left) b)) right_now.here;
    }

pub select_put : (old both new : List Term) (store at : Tree) (s a place : ℕ) → StandsAt old s store → IsPut old both at a → IsPut both new (Leaf (Sel s a)) place
    → IsPut old new (Select store at) place
select_put old both new store at s a place stands put last =
    let pair = pair_put Sel old old both new store at s a place (stands_put old s store stands) put last in record { is = pair.is; here = pair.here }

pub unheld_put : (old both new : List Term) (store value : Tree) (s v place : ℕ) → StandsAt old s store → IsPut old both value v → IsPut both new (Leaf (Una s v)) place
    → IsPut old new (Unheld store value) place
unheld_put old both new store value s v place stands put last =
    let pair = pair_put Una old old both new store value s v place (stands_put old s store stands) put last in record { is = pair.is; here = pair.here }

pub compute_put : (op : Op) (old mid both new : List Term) (left right : Tree) (l r place : ℕ) → IsPut old mid left l → IsPut mid both right r → IsPut both new (Leaf (Computed op l r)) place
    → IsPut old new (Compute op left right) place
compute_put op old mid both new left right l r place first second last =
    let pair = pair_put (Computed op) old mid both new left right l r place first second last in record { is = pair.is; here = pair.here }

pub kind_put : (old mid new : List Term) (tree : Tree) (t place : ℕ) → IsPut old mid tree t → IsPut mid new (Leaf (Kind t)) place → IsPut old new (KindOf tree) place
kind_put old mid new tree t place put last =
    let now : StandsAt new t tree = stands_longer mid new t tree (put_grown mid new (Leaf (Kind t)) place last) (put_stands old mid tree t put) in
    record {
      is = last.is ∙ ap (λ a. with_term mid (Kind a)) put.here ∙ ap (λ terms. with_term terms (Kind (tree_place terms tree))) put.is;
      here = last.here ∙ ap (λ a. place_of new (Kind a)) now.here;
    }

-- ---- literals

pub lit_put : (old mid new : List Term) (lit : TreeLit) (placed : Lit) (l r : ℕ) → IsPut old mid lit.left l → IsPut mid new lit.right r
    → placed ≡ record { left = l; right = r; equal = lit.equal } → IsLitPut old new lit placed
lit_put old mid new lit placed l r first second is =
    let now : StandsAt new l lit.left = stands_longer mid new l lit.left (put_grown mid new lit.right r second) (put_stands old mid lit.left l first) in
    record {
      is = second.is ∙ ap (λ terms. with_tree terms lit.right) first.is;
      names = is ∙ ap (λ a. record { left = a; right = r; equal = lit.equal }) now.here ∙ ap (λ b. record { left = tree_place new lit.left; right = b; equal = lit.equal }) second.here;
    }

pub trees_grown : (terms : List Term) (trees : List Tree) → Extends terms (fold with_tree terms trees)
trees_grown terms [] = extends_itself terms
trees_grown terms (tree ∷ trees) = extends_further (with_tree_has terms tree).grown (trees_grown (with_tree terms tree) trees)

-- trees that were put into a list stand in it
pub trees_stand : (terms : List Term) (trees : List Tree) → AllByRecursion (IsIn (fold with_tree terms trees)) trees
trees_stand terms [] = tt
trees_stand terms (tree ∷ trees) =
    (stays_in (with_tree terms tree) _ tree (trees_grown (with_tree terms tree) trees) (with_tree_has terms tree).is_in, trees_stand (with_tree terms tree) trees)

-- a literal whose trees stand in the list names the same places in a longer one
lit_same : (old new : List Term) (lit : TreeLit) → Extends old new → IsIn old lit.left → IsIn old lit.right → lit_in old lit ≡ lit_in new lit
lit_same old new lit grown left right =
    ap (λ a. record { left = a; right = tree_place old lit.right; equal = lit.equal }) (sym (place_same old new lit.left grown left))
    ∙ ap (λ b. record { left = tree_place new lit.left; right = b; equal = lit.equal }) (sym (place_same old new lit.right grown right))

lits_same : (old new : List Term) (lits : List TreeLit) → Extends old new → AllByRecursion (IsIn old) (flat_map literal_trees lits) → map (lit_in old) lits ≡ map (lit_in new) lits
lits_same old new [] grown stand = refl
lits_same old new (lit ∷ lits) grown stand =
    ap (λ first. first ∷ map (lit_in old) lits) (lit_same old new lit grown stand.0 stand.1.0)
    ∙ ap (λ rest. lit_in new lit ∷ rest) (lits_same old new lits grown stand.1.1)

pub none_put : (terms : List Term) → ArePut terms terms [] []
none_put terms = record { is = refl; names = refl }

-- one literal more
pub one_more : (old mid new : List Term) (lits : List TreeLit) (placed : List Lit) (lit : TreeLit) (this : Lit) → ArePut old mid lits placed → IsLitPut mid new lit this
    → ArePut old new (lits ++ lit ∷ []) (placed ++ this ∷ [])
one_more old mid new lits placed lit this front put =
    let trees : List Tree = flat_map literal_trees lits in
    let grown : Extends mid new = subst (Extends mid) (sym put.is) (extends_further (with_tree_has mid lit.left).grown (with_tree_has (with_tree mid lit.left) lit.right).grown) in
    let stand : AllByRecursion (IsIn mid) trees = subst (λ terms. AllByRecursion (IsIn terms) trees) (sym front.is) (trees_stand old trees) in
    record {
      is = put.is
          ∙ ap (λ terms. with_tree (with_tree terms lit.left) lit.right) front.is
          ∙ sym (ap (fold with_tree old) (flat_map-append literal_trees lits (lit ∷ [])) ∙ fold-append with_tree old trees (literal_trees lit));
      names = ap (λ items. items ++ this ∷ []) (front.names ∙ lits_same mid new lits grown stand)
          ∙ ap (λ last. map (lit_in new) lits ++ last ∷ []) put.names
          ∙ sym (map-append (lit_in new) lits (lit ∷ []));
    }

-- the literal of one item more
pub item_more : {X : Type 0} (literal : X → TreeLit) (old mid new : List Term) (items : List X) (i : ℕ) (d : X) (placed pushed : List Lit) (this : Lit) → i < length items
    → ArePut old mid (map literal (take i items)) placed → IsLitPut mid new (literal (get_or items i d)) this → pushed ≡ placed ++ this ∷ []
    → ArePut old new (map literal (take (i + 1) items)) pushed
item_more literal old mid new items i d placed pushed this within front put is =
    subst (λ all. ArePut old new (map literal (take (i + 1) items)) all) (sym is)
    (subst (λ lits. ArePut old new lits (placed ++ this ∷ []))
    (sym (ap (map literal) (take_more items i d within) ∙ map-append literal (take i items) (get_or items i d ∷ [])))
    (one_more old mid new (map literal (take i items)) placed (literal (get_or items i d)) this front put))
