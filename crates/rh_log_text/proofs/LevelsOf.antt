-- What is awaited after one more node.
use Rattle.std.proofs.Common.{ℕ, zero, suc, ◌≡◌, ◌<◌, ◌≤◌, ◌+◌, ◌-◌, List, [], ◌∷◌, ◌++◌, append_assoc, append-nil, length, Bool, Some, None, arith, refl, ap, sym, ◌∙◌}
use Rattle.std.specs.Prelude.{◌==◌, if◌then◌else◌}
use Rattle.std.specs.Prelude.{replicate}
use Rattle.std.specs.List.{AllByRecursion}
use Rattle.std.proofs.lemmas.List.{length-append, length-replicate}
use Rattle.std.proofs.lemmas.Bool.{le-leb, lt-leb, ne_eqb}
use Rattle.rh_list.proofs.Appended.{apart}
use Rattle.rh_log_text.specs.declared.waiting.Level.{Level}
use Rattle.rh_log_text.specs.Levels.{depths_of, HasSome}
use Rattle.rh_log_text.specs.Tree.{awaited_after}

pub depths_more : (levels : List Level) (level : Level) → depths_of (levels ++ level ∷ []) ≡ replicate level.count level.depth ++ depths_of levels
depths_more [] level = sym (append-nil (replicate level.count level.depth))
depths_more (first ∷ levels) level =
    ap (λ (depths : List ℕ). depths ++ replicate first.count first.depth) (depths_more levels level)
    ∙ append_assoc (replicate level.count level.depth) (depths_of levels) (replicate first.count first.depth)

node_taken : (count depth children : ℕ) (rest : List ℕ) → 0 < count → depth ≤ 512
    → awaited_after (replicate count depth ++ rest) children ≡ Some (replicate children (depth + 1) ++ (replicate (count - 1) depth ++ rest))
node_taken zero depth children rest some fits = absurd (omega (arith, some))
node_taken (suc count) depth children rest some fits =
    let less : count ≡ suc count - 1 = omega arith in
    ap (λ (test : Bool). if test then Some (replicate children (depth + 1) ++ (replicate count depth ++ rest)) else None) (le-leb depth 512 fits)
    ∙ ap (λ n. Some (replicate children (depth + 1) ++ (replicate n depth ++ rest))) less

node_refused : (count depth children : ℕ) (rest : List ℕ) → 0 < count → 512 < depth → awaited_after (replicate count depth ++ rest) children ≡ None
node_refused zero depth children rest some deep = absurd (omega (arith, some))
node_refused (suc count) depth children rest some deep =
    ap (λ (test : Bool). if test then Some (replicate children (depth + 1) ++ (replicate count depth ++ rest)) else None) (lt-leb depth 512 deep)

at_levels : (levels front : List Level) (next : Level) → levels ≡ front ++ next ∷ [] → depths_of levels ≡ replicate next.count next.depth ++ depths_of front
at_levels levels front next is = ap depths_of is ∙ depths_more front next

pub taken : (levels front : List Level) (next : Level) (children : ℕ) → levels ≡ front ++ next ∷ [] → HasSome next → next.depth ≤ 512
    → awaited_after (depths_of levels) children ≡ Some (replicate children (next.depth + 1) ++ (replicate (next.count - 1) next.depth ++ depths_of front))
taken levels front next children is some fits =
    ap (λ (depths : List ℕ). awaited_after depths children) (at_levels levels front next is) ∙ node_taken next.count next.depth children (depths_of front) some fits

pub refused : (levels front : List Level) (next : Level) (children : ℕ) → levels ≡ front ++ next ∷ [] → HasSome next → 512 < next.depth → awaited_after (depths_of levels) children ≡ None
refused levels front next children is some deep =
    ap (λ (depths : List ℕ). awaited_after depths children) (at_levels levels front next is) ∙ node_refused next.count next.depth children (depths_of front) some deep

pub last_has : (front : List Level) (next : Level) → AllByRecursion HasSome (front ++ next ∷ []) → HasSome next
last_has front next all = (apart HasSome front (next ∷ []) all).1.0

-- no level is left where no node is awaited
pub none_left : (levels : List Level) → AllByRecursion HasSome levels → (length levels == 0) ≡ (length (depths_of levels) == 0)
none_left [] all = refl
none_left (first ∷ levels) all =
    ne_eqb (length (first ∷ levels)) 0 (λ e. absurd (omega (arith, e)))
    ∙ sym (ne_eqb (length (depths_of levels ++ replicate first.count first.depth)) 0
    (λ e. absurd (omega (arith, e, all.0, length-append (depths_of levels) (replicate first.count first.depth), length-replicate first.count first.depth))))
