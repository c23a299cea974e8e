use Rattle.std.proofs.Common.{◌≡◌, ◌≤◌, ◌+◌, true, drop}
use Rattle.taken_ids.specs.Functions.{starts_in}
use Rattle.function_tables.proofs.blocks.block_count.Given as goal

abbrev pub invariant-loop-line : goal.invariant-loop-line
invariant-loop-line l = record {
  rest : l.begun.count + starts_in l.begun.fresh (drop l.line-index l.line-items) ≡ starts_in true l.function.body;
  room : l.begun.count ≤ l.line-index;
}
