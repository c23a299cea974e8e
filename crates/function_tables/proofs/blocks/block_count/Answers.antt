use Rattle.std.proofs.Common.{List, ◌+◌, arith}
use Rattle.std.proofs.lemmas.List.{at_drop_all}
use Rattle.sym_expr.specs.declared.patches.FunLine.{FunLine}
use Rattle.taken_ids.specs.Functions.{starts_in}
use Rattle.function_tables.proofs.Counts.{blocks_counted}
use Rattle.function_tables.proofs.blocks.block_count.Goals as goal

pub returns : goal.returns
returns c =
    let all = at_drop_all (λ (ls : List FunLine). starts_in c.loop-line.begun.fresh ls) c.as_slice-line-items.result.now c.loop-line.line-index c.loop-line-test.false in
    omega (arith, all, c.loop-line.invariant.rest, blocks_counted c.args.function.now)
