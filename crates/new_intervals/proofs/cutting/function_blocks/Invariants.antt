use Rattle.std.proofs.Common.{◌≡◌, ◌≤◌, ◌+◌, ◌*◌, true, drop}
use Rattle.new_intervals.specs.Cutting.{all_blocks, blocks_yet}
use Rattle.new_intervals.proofs.cutting.function_blocks.Given as goal

abbrev pub invariant-loop-line : goal.invariant-loop-line
invariant-loop-line l = record {
  rest : all_blocks l.module l.function l.blocks (drop l.line-index l.line-items) ≡ blocks_yet l.module l.function 0 0 0 true l.function.body;
  room : l.blocks.at + 4 * l.blocks.words ≤ 4 * l.line-index;
}
