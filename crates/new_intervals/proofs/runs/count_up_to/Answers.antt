use Rattle.std.proofs.Common.{ℕ, sym, ◌∙◌, rules, leb, arith}
use Rattle.std.proofs.lemmas.List.Sorted.{IsPartitionPoint-from_clause, IsPartitionedBy-leb}
use Rattle.new_intervals.proofs.Counts.{count_front, count_up_to}
use Rattle.new_intervals.proofs.runs.count_up_to.Goals as goal

pub returns : goal.returns
returns c =
    let ns = c.args.offsets.now in
    let d = c.args.depth in
    let i = c.partition_point.result in
    let test = λ (n : ℕ). leb n d in
    let point = IsPartitionPoint-from_clause test ns i c.partition_point.ensures.partitioned (IsPartitionedBy-leb (λ (n : ℕ). n) ns d c.requires) (λ a r f h. search rules) in
    sym (count_front test ns i c.partition_point.ensures.bound (λ k e lt. point.0 k e (omega arith) lt) (λ k e le lt. point.1 k e le lt)) ∙ count_up_to d ns
