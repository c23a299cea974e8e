use Rattle.std.proofs.Common.{leb, rules}
use Rattle.std.proofs.lemmas.Bool.{leb-true, leb-false}
use Rattle.std.proofs.lemmas.List.Sorted.{IsPartitionPoint-from_clause, IsPartitionedBy-leb}
use Rattle.paged_memory.specs.declared.part.Part.{Part}
use Rattle.paged_memory.proofs.Places.{starts_rise}
use Rattle.paged_memory.proofs.pages.begun.Goals as goal

pub returns-clause-point : goal.returns-clause-point
returns-clause-point c =
    let parts = c.args.parts.now in
    let at = c.args.at in
    let point = IsPartitionPoint-from_clause (λ (part : Part). leb part.at at) parts c.partition_point.result c.partition_point.ensures.partitioned
    (IsPartitionedBy-leb (λ (part : Part). part.at) parts at (starts_rise parts c.requires)) (λ a r f h. search rules) in
    (λ k d low lt. leb-true _ _ (point.0 k d low lt), λ k d low lt. leb-false _ _ (point.1 k d low lt))
