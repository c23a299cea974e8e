use Rattle.std.proofs.Common.{◌≡◌, ◌≤◌, ◌+◌, ◌*◌, true, [], drop, length}
use Rattle.module_program.specs.Building.{all_pieces, pieces_yet}
use Rattle.module_program.proofs.functions.function_pieces.Given as goal

abbrev pub invariant-loop-line : goal.invariant-loop-line
invariant-loop-line l = record {
  rest : all_pieces l.context.module l.context.patches.now l.function l.blocks (drop l.line-index l.line-items) ≡ pieces_yet l.context.module l.context.patches.now l.function 0 0 [] true l.function.body;
  room : l.blocks.at + 4 * length l.blocks.own.items ≤ 4 * l.line-index;
}
