use Rattle.std.proofs.Common.{leb, rules}
use Rattle.std.proofs.lemmas.Bool.{leb-true, leb-false}
use Rattle.std.proofs.lemmas.List.Sorted.{IsPartitionPoint-from_clause, IsPartitionedBy-leb}
use Rattle.bare_image.specs.declared.image.Segment.{Segment}
use Rattle.paged_memory.proofs.Images.{segments_rise}
use Rattle.paged_memory.proofs.memory.begun.Goals as goal

pub returns-clause-point : goal.returns-clause-point
returns-clause-point c =
    let segments = c.args.segments.now in
    let at = c.args.at in
    let point = IsPartitionPoint-from_clause (λ (s : Segment). leb s.at at) segments c.partition_point.result c.partition_point.ensures.partitioned
    (IsPartitionedBy-leb (λ (s : Segment). s.at) segments at (segments_rise segments c.requires)) (λ a r f h. search rules) in
    (λ k d low lt. leb-true _ _ (point.0 k d low lt), λ k d low lt. leb-false _ _ (point.1 k d low lt))
