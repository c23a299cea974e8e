use Rattle.std.proofs.Common.{ℕ, sym, rules, leb, arith}
use Rattle.std.proofs.lemmas.List.Sorted.{IsPartitionPoint-from_clause, IsPartitionedBy-leb}
use Rattle.sym_expr.specs.declared.program.Word.{Word}
use Rattle.indexed_program.proofs.Lists.{count_front}
use Rattle.indexed_program.proofs.inserted.count_up_to.Goals as goal

pub returns : goal.returns
returns c =
    let test = λ (w : ℕ × Word). leb w.0 c.args.offset in
    let point = IsPartitionPoint-from_clause test c.args.words.now c.partition_point.result c.partition_point.ensures.partitioned (IsPartitionedBy-leb (λ (w : ℕ × Word). w.0) c.args.words.now c.args.offset c.requires) (λ a r f h. search rules) in
    sym (count_front test c.args.words.now c.partition_point.result c.partition_point.ensures.bound (λ k d lt. point.0 k d (omega arith) lt) (λ k d le lt. point.1 k d le lt))
