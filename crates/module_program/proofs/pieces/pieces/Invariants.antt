use Rattle.std.proofs.Common.{◌≡◌, ◌++◌, drop}
use Rattle.sym_expr.specs.Program.{pieces}
use Rattle.module_program.proofs.pieces.pieces.Given as goal

abbrev pub invariant-loop-block : goal.invariant-loop-block
invariant-loop-block l =
    l.pieces.items ++ pieces l.context.module l.context.tables l.context.patches.now l.interval l.at (drop l.block-index l.blocks)
    ≡ pieces l.context.module l.context.tables l.context.patches.now l.interval 0 l.blocks
