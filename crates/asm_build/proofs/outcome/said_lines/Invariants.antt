use Rattle.std.proofs.Common.{◌≡◌, ◌++◌, length}
use Rattle.std.specs.Vec.Iter.{into_iter_items, into_iter_len}
use Rattle.asm_modules.specs.Outcomes.{lines_in}
use Rattle.asm_build.proofs.outcome.said_lines.Given as goal

abbrev pub invariant-loop-line : goal.invariant-loop-line
invariant-loop-line l = record {
  said : l.lines ++ lines_in (into_iter_items l.line-iterator) ≡ lines_in (into_iter_items l.initial.line-iterator);
  rest : into_iter_len l.line-iterator ≡ length (into_iter_items l.line-iterator);
}
