use Rattle.std.proofs.Common.{◌+◌, ◌++◌, List, ℕ, Some, replicate, ap, sym, subst, ◌∙◌}
use Rattle.std.specs.List.{AllByRecursion}
use Rattle.rh_log_text.specs.declared.waiting.Level.{Level}
use Rattle.rh_log_text.specs.Levels.{HasSome}
use Rattle.rh_log_text.specs.Tree.{awaited_after}
use Rattle.rh_log_text.proofs.LevelsOf.{last_has, refused, taken}
use Rattle.rh_log_text.proofs.waiting.Waiting.take.Goals as goal

pub returns-then-next-gt-MOST_DEPTH : goal.returns-then-next-gt-MOST_DEPTH
returns-then-next-gt-MOST_DEPTH c =
    let levels = c.self.inside.levels.items in
    let front = c.pop.new.self.items in
    ap (λ (depths : List ℕ). awaited_after depths c.args.children) (sym c.self.view_is)
    ∙ refused levels front c.in-Some.next c.args.children c.in-Some.ensures.items
    (last_has front c.in-Some.next (subst (λ (levels : List Level). AllByRecursion HasSome levels) c.in-Some.ensures.items c.self.invariant)) c.if-next-gt-MOST_DEPTH.true

pub overflow_sub-next : goal.overflow_sub-next
overflow_sub-next c =
    last_has c.pop.new.self.items c.in-Some.next (subst (λ (levels : List Level). AllByRecursion HasSome levels) c.in-Some.ensures.items c.self.invariant)

pub returns : goal.returns
returns c =
    let levels = c.self.inside.levels.items in
    let front = c.pop.new.self.items in
    let next = c.in-Some.next in
    ap (λ (depths : List ℕ). awaited_after depths c.args.children) (sym c.self.view_is)
    ∙ taken levels front next c.args.children c.in-Some.ensures.items
    (last_has front next (subst (λ (levels : List Level). AllByRecursion HasSome levels) c.in-Some.ensures.items c.self.invariant)) c.if-next-gt-MOST_DEPTH.false
    ∙ sym (ap (λ (depths : List ℕ). Some depths) (c.in_ok-push_level-2.ensures.depths ∙ ap (λ (depths : List ℕ). replicate c.args.children (next.depth + 1) ++ depths) c.in_ok-push_level.ensures.depths))
