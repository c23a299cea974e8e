use Rattle.std.proofs.Common.{rules, arith}
use Rattle.module_program.proofs.Near.{near_found, near_ordered}
use Rattle.module_program.proofs.Steps.{words_more}
use Rattle.module_program.proofs.words.own_words.Goals as goal

pub target_at-target-requires-clause-ordered : goal.target_at-target-requires-clause-ordered
target_at-target-requires-clause-ordered c = near_ordered _ _ c.args.interval.now.exprs c.as_slice.result.now c.between-near.result.now c.as_slice.ensures c.between-near.ensures c.requires.ordered

pub target_at-target-requires-clause-near : goal.target_at-target-requires-clause-near
target_at-target-requires-clause-near c =
    near_found _ _ _ c.args.interval.now.exprs c.as_slice.result.now c.between-near.result.now c.as_slice.ensures c.between-near.ensures (omega arith) (omega arith)

pub loop-k-preserved : goal.loop-k-preserved
loop-k-preserved c = rw (words_more c.args.context.now.module c.args.context.now.patches.now c.args.interval.now c.args.at c.loop-k.k) (search rules)
