use Rattle.std.proofs.Common.{◌≡◌, ◌≤◌, ◌+◌, ◌++◌, true, drop, length}
use Rattle.new_symbols.proofs.Labels.{symbols_yet}
use Rattle.sym_expr.specs.Patches.{function_blocks}
use Rattle.taken_ids.specs.Functions.{starts_in}
use Rattle.new_symbols.proofs.names.push_labels.Given as goal

abbrev pub invariant-loop-line : goal.invariant-loop-line
invariant-loop-line l = record {
  all : l.symbols.items ++ symbols_yet l.module l.function l.begun.count l.begun.fresh (drop l.line-index l.line-items) ≡ l.initial.symbols.items ++ symbols_yet l.module l.function 0 true l.function.body;
  rest : l.begun.count + starts_in l.begun.fresh (drop l.line-index l.line-items) ≡ length (function_blocks l.function);
  room : l.begun.count ≤ l.line-index;
}
