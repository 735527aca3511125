use Rattle.std.proofs.Common.{nat_le, rules}
use Rattle.std.proofs.lemmas.Bool.{leb-false, leb-true}
use Rattle.std.proofs.lemmas.List.Sorted.{IsPartitionPoint-from_clause, IsPartitionedBy-leb}
use Rattle.rh_layout.specs.declared.laid.LaidProc.{LaidProc}
use Rattle.rh_layout.proofs.layout.Layout.ended_by.Goals as goal

pub returns : goal.returns
returns c =
    let word = c.args.word in
    let parted = IsPartitionedBy-leb (λ (laid : LaidProc). laid.next_word) c.args.self.now.procs word c.requires in
    let point = IsPartitionPoint-from_clause (λ (laid : LaidProc). nat_le laid.next_word word) _ _ c.partition_point.ensures.partitioned (rw c.as_slice.ensures.value parted) (λ a r q k. search rules) in
    rw (← c.as_slice.ensures.value) ((λ k d from below. leb-true _ word (point.0 k d from below)), (λ k d from below. leb-false _ word (point.1 k d from below)))
