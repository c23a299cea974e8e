use Rattle.std.proofs.Common.{leb, ltb, ◌∙◌, arith, rules, get_or}
use Rattle.std.proofs.lemmas.List.Sorted.{IsPartitionPoint-from_clause, IsPartitionedBy-leb}
use Rattle.moved_places.specs.declared.kept.PieceMoves.{PieceMoves}
use Rattle.moved_places.proofs.Lists.{find_behind}
use Rattle.moved_places.proofs.Pieces.{lt_no, lt_yes}
use Rattle.moved_places.proofs.looking.piece_at.Goals as goal

pub returns : goal.returns
returns c =
    let kept = c.args.interval.now in
    let test = λ (p : PieceMoves). leb p.until c.args.offset in
    let point = IsPartitionPoint-from_clause test c.as_slice-pieces.result.now c.partition_point-index.result c.partition_point-index.ensures.partitioned (rw c.as_slice-pieces.ensures (IsPartitionedBy-leb (λ (p : PieceMoves). p.until) kept.pieces c.args.offset kept.ascend)) (λ a r f h. search rules) in
    c.get.ensures.value
    ∙ rw (← c.as_slice-pieces.ensures) (find_behind (λ (p : PieceMoves). ltb c.args.offset p.until) c.as_slice-pieces.result.now c.partition_point-index.result
    (λ k d lt within. lt_no c.args.offset (get_or c.as_slice-pieces.result.now k d).until (point.0 k d (omega arith) lt))
    (λ k d le within. lt_yes c.args.offset (get_or c.as_slice-pieces.result.now k d).until (point.1 k d le within)))
