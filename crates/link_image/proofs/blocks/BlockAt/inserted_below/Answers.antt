use Rattle.std.proofs.Common.{ℕ, sym, rules, ltb, arith}
use Rattle.std.proofs.lemmas.List.Sorted.{IsPartitionPoint-from_clause, IsPartitionedBy-ltb}
use Rattle.link_image.proofs.Lists.{count_front}
use Rattle.link_image.proofs.blocks.BlockAt.inserted_below.Goals as goal

pub returns : goal.returns
returns c =
    let test = λ (n : ℕ). ltb n c.args.offset in
    let point = IsPartitionPoint-from_clause test c.as_slice.result.now c.partition_point.result c.partition_point.ensures.partitioned (rw c.as_slice.ensures (IsPartitionedBy-ltb (λ (n : ℕ). n) c.args.self.now.inserted c.args.offset c.requires)) (λ a r f h. search rules) in
    sym (rw (← c.as_slice.ensures) (count_front test c.as_slice.result.now c.partition_point.result c.partition_point.ensures.bound (λ k d lt. point.0 k d (omega arith) lt) (λ k d le lt. point.1 k d le lt)))
