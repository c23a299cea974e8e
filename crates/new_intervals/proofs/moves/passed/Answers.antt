use Rattle.std.proofs.Common.{leb, rules, arith}
use Rattle.std.proofs.lemmas.Bool.{leb-true, leb-false}
use Rattle.std.proofs.lemmas.List.Sorted.{IsPartitionPoint-from_clause, IsPartitionedBy-leb}
use Rattle.new_intervals.specs.declared.runs.Run.{Run}
use Rattle.new_intervals.specs.Moving.{ending}
use Rattle.new_intervals.proofs.moves.passed.Goals as goal

pub returns-clause-front : goal.returns-clause-front
returns-clause-front c =
    let rs = c.args.runs.now in
    let at = c.args.at in
    let point = IsPartitionPoint-from_clause (λ (r : Run). leb r.end at) rs c.partition_point.result c.partition_point.ensures.partitioned (IsPartitionedBy-leb ending rs at c.requires) (λ a r f h. search rules) in
    λ k d lt. leb-true _ _ (point.0 k d (omega (arith, c.partition_point.ensures.bound)) lt)

pub returns-clause-rest : goal.returns-clause-rest
returns-clause-rest c =
    let rs = c.args.runs.now in
    let at = c.args.at in
    let point = IsPartitionPoint-from_clause (λ (r : Run). leb r.end at) rs c.partition_point.result c.partition_point.ensures.partitioned (IsPartitionedBy-leb ending rs at c.requires) (λ a r f h. search rules) in
    λ k d le lt. leb-false _ _ (point.1 k d le lt)
