use Rattle.std.proofs.Common.{◌≡◌, ◌≤◌, drop}
use Rattle.module_program.specs.Cutting.{cut_behind, whole_cut}
use Rattle.module_program.proofs.cut.whole_cut.Given as goal

abbrev pub invariant-loop-line : goal.invariant-loop-line
invariant-loop-line l = record {
  rest : cut_behind l.cut (drop l.line-index l.line-items) ≡ whole_cut l.function;
  blocks : l.cut.blocks ≤ l.line-index;
  last : l.cut.last ≤ l.line-index;
}
