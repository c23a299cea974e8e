use Rattle.std.proofs.Common.{◌≡◌, ◌≤◌, ◌*◌, ◌++◌, drop}
use Rattle.std.specs.List.{flat_map}
use Rattle.rewrite.specs.Functions.{exprs_from}
use Rattle.sym_expr.specs.TableOk.{function_words, line_words}
use Rattle.new_intervals.proofs.functions.function_exprs.Given as goal

abbrev pub invariant-loop-line : goal.invariant-loop-line
invariant-loop-line l = record {
  rest : l.out.items ++ exprs_from l.module l.at (flat_map line_words (drop l.line-index l.line-items)) ≡ exprs_from l.module 0 (function_words l.function);
  room : l.at ≤ 4 * l.line-index;
}
