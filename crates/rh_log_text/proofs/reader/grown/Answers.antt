use Rattle.std.proofs.Common.{◌≡◌, ◌++◌, ◌∷◌, [], List, Some, ap, sym, subst, ◌∙◌}
use Rattle.rh_log.specs.declared.log.LogNode.{LogNode}
use Rattle.rh_log_text.specs.declared.line.Line.TheVariants.{Node}
use Rattle.rh_log_text.specs.declared.logs.PlacedLog.{PlacedLog}
use Rattle.rh_log_text.specs.declared.reader.Reader.TheVariants.{Between, Within}
use Rattle.rh_log_text.specs.Reader.{Reads}
use Rattle.rh_log_text.specs.Tree.{awaited_after}
use Rattle.rh_log_text.proofs.Steps.{holds_so, none_left, reads_last, reads_node, some_left}
use Rattle.rh_log_text.proofs.reader.grown.Goals as goal

pub returns-then-is_empty : goal.returns-then-is_empty
returns-then-is_empty c = λ number.
    let log = c.args.log in
    let section = c.args.section in
    let after = c.take.new.self in
    let takes : awaited_after log.waiting c.args.node.children ≡ Some after = holds_so _ _ c.in_ok-take.field-0 c.if-not-branch.false c.in_ok-take.ensures in
    let logs : c.push-then-is_empty.new.self ≡ section.logs ++ record { line = log.line; number = log.number; log = record { nodes = log.nodes ++ c.args.node ∷ [] } } ∷ [] =
    c.in_ok-push-2.ensures.ok
    ∙ ap (λ (last : PlacedLog). section.logs ++ last ∷ [])
    (c.closed.ensures ∙ ap (λ (nodes : List LogNode). record { line = log.line; number = log.number; log = record { nodes = nodes } }) c.in_ok-push.ensures.ok) in
    subst (λ (logs : List PlacedLog). Reads (Within c.args.done section log) number (Node c.args.node) (Between c.args.done record { name = section.name; line = section.line; logs = logs }))
    (sym logs) (reads_last c.args.done section log c.args.node after number takes (none_left after (sym c.is_empty.ensures ∙ c.if-is_empty.true)))

pub returns : goal.returns
returns c = λ number.
    let log = c.args.log in
    let after = c.take.new.self in
    let takes : awaited_after log.waiting c.args.node.children ≡ Some after = holds_so _ _ c.in_ok-take.field-0 c.if-not-branch.false c.in_ok-take.ensures in
    subst (λ (nodes : List LogNode). Reads (Within c.args.done c.args.section log) number (Node c.args.node) (Within c.args.done c.args.section record { line = log.line; number = log.number; nodes = nodes; waiting = after }))
    (sym c.in_ok-push.ensures.ok) (reads_node c.args.done c.args.section log c.args.node after number takes (some_left after (sym c.is_empty.ensures ∙ c.if-is_empty.false)))
