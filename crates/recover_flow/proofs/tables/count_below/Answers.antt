use Rattle.std.proofs.Common.{rules, nat_lt}
use Rattle.std.proofs.lemmas.List.Sorted.{IsPartitionPoint-from_clause, IsPartitionedBy-ltb}
use Rattle.recover_flow.proofs.Numbers.{cut_is}
use Rattle.recover_flow.proofs.tables.count_below.Goals as goal

pub returns : goal.returns
returns c = λ rises.
    let numbers = c.args.numbers.now in
    let point = IsPartitionPoint-from_clause (λ x. nat_lt x c.args.end) numbers c.partition_point.result c.partition_point.ensures.partitioned (IsPartitionedBy-ltb (λ x. x) numbers c.args.end rises) (λ a r q k. search rules) in
    cut_is numbers c.args.end c.partition_point.result c.partition_point.ensures.bound point
