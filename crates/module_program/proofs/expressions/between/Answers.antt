use Rattle.std.proofs.Common.{ℕ, ◌-◌, length, take, drop, nat_lt, rules, ap, ◌∙◌}
use Rattle.std.proofs.lemmas.List.Sorted.{IsPartitionPoint-from_clause, IsPartitionedBy-ltb, IsNonDecreasingBy-drop, IsNonDecreasingBy-take}
use Rattle.gt_model.specs.declared.exprs.Expr.{Expr}
use Rattle.module_program.proofs.Partition.{rising, rest_of, cut}
use Rattle.module_program.proofs.expressions.between.Goals as goal

pub returns : goal.returns
returns c =
    let at : Expr → ℕ = λ (e : Expr). e.at in
    let exprs = c.args.exprs.now in
    let i = c.partition_point-start.result in
    let n = c.partition_point-count.result in
    let up = rising exprs c.requires in
    let start = IsPartitionPoint-from_clause (λ (e : Expr). nat_lt e.at c.args.from) exprs i c.partition_point-start.ensures.partitioned (IsPartitionedBy-ltb at exprs c.args.from up) (λ a r q k. search rules) in
    let whole = rest_of exprs i in
    let rest = take (length exprs - i) (drop i exprs) in
    let later = IsPartitionedBy-ltb at rest c.args.to (IsNonDecreasingBy-take at (length exprs - i) (drop i exprs) (IsNonDecreasingBy-drop at i exprs up)) in
    let end = IsPartitionPoint-from_clause (λ (e : Expr). nat_lt e.at c.args.to) rest n c.partition_point-count.ensures.partitioned later (λ a r q k. search rules) in
    ap (take n) whole
    ∙ cut exprs c.args.from c.args.to i n start c.partition_point-start.ensures.bound
    (rw whole at end)
    (rw whole at c.partition_point-count.ensures.bound)
