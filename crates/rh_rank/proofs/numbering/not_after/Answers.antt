use Rattle.std.proofs.Common.{nat_le, rules}
use Rattle.std.proofs.lemmas.Bool.{leb-false, leb-true}
use Rattle.std.proofs.lemmas.List.Sorted.{IsPartitionPoint-from_clause, IsPartitionedBy-leb}
use Rattle.rh_rank.proofs.numbering.not_after.Goals as goal

pub returns-clause-point : goal.returns-clause-point
returns-clause-point c =
    let number = c.args.number in
    let parted = IsPartitionedBy-leb (λ count. count) c.args.counts.now number c.requires in
    let point = IsPartitionPoint-from_clause (λ count. nat_le count number) _ _ c.partition_point.ensures.partitioned parted (λ a r q k. search rules) in
    ((λ k d from below. leb-true _ number (point.0 k d from below)), (λ k d from below. leb-false _ number (point.1 k d from below)))
