use Rattle.std.proofs.Common.{List, ℕ, ◌+◌, ◌<◌, ◌≤◌, sym, subst, arith}
use Rattle.rh_rank.proofs.Counted.{few_before, few_more}
use Rattle.rh_rank.proofs.Runs.{AreBeginsBelow, begins_more, begins_none, begins_same}
use Rattle.rh_rank.proofs.numbering.run_begins.Goals as goal
use Rattle.rh_rank.proofs.numbering.run_begins.Goals.{then-next-before+in_ok-push, else-next-before}

pub loop-word-init : goal.loop-word-init
loop-word-init c = subst (λ (items : List ℕ). AreBeginsBelow c.args.words.now items 0 0) (sym c.new-begins.ensures.items) (begins_none c.args.words.now)

pub overflow_add-next : goal.overflow_add-next
overflow_add-next c =
    let few = few_before c.args.words.now c.loop-word.word in
    let soon = c.loop-word.invariant.soon in
    let all = c.requires.few in
    omega (arith, few, soon, all)

pub loop-word-preserved : goal.loop-word-preserved
loop-word-preserved c =
    let words = c.args.words.now in
    let word = c.loop-word.word in
    let count = c.requires.counts.counts (word + 1) (omega arith) in
    let more = few_more words word (c.type_inv.words word).fits in
    elim c.if-next-before.branch [
      | then-next-before+in_ok-push w ↦
          rw (w.begins-is, w.next-is) (subst (λ (items : List ℕ). AreBeginsBelow words items (c.loop-word.next + 64) (word + 1)) (sym w.in_ok-push.ensures.items)
          (begins_more words c.loop-word.begins.items c.loop-word.next word c.loop-word.invariant (subst (λ n. c.loop-word.next < n) count w.if-next-before.true) more))
      | else-next-before w ↦
          rw (w.begins-is, w.next-is) (begins_same words c.loop-word.begins.items c.loop-word.next word c.loop-word.invariant (subst (λ n. n ≤ c.loop-word.next) count w.if-next-before.false))
    ]
