use Rattle.std.proofs.Common.{◌≡◌, ℕ, ◌+◌, ◌*◌, ap, sym, ◌∙◌, rules, ltb, arith}
use Rattle.std.proofs.lemmas.List.Sorted.{IsPartitionPoint-from_clause, IsPartitionedBy-ltb}
use Rattle.moved_places.specs.Intervals.{count_below}
use Rattle.moved_places.proofs.Lists.{count_front}
use Rattle.moved_places.proofs.looking.offset_in.Goals as goal

pub returns : goal.returns
returns c =
    let p = c.args.piece.now in
    let depth : ℕ = c.saturating_sub-depth.result in
    let found : ℕ = c.partition_point-inserted.result in
    let test = λ (n : ℕ). ltb n (depth + 1) in
    let point = IsPartitionPoint-from_clause test c.as_slice.result.now found c.partition_point-inserted.ensures.partitioned (rw c.as_slice.ensures (IsPartitionedBy-ltb (λ (n : ℕ). n) p.inserted (depth + 1) p.sorted)) (λ a r f h. search rules) in
    let count : found ≡ count_below (depth + 1) p.inserted =
    sym (rw (← c.as_slice.ensures) (count_front test c.as_slice.result.now found c.partition_point-inserted.ensures.bound (λ k d lt. point.0 k d (omega arith) lt) (λ k d le lt. point.1 k d le lt))) in
    ap (λ k. p.at + (depth + 4 * k)) count ∙ ap (λ d. p.at + (d + 4 * count_below (d + 1) p.inserted)) c.saturating_sub-depth.ensures
