use Rattle.std.proofs.Common.{◌≡◌, length}
use Rattle.std.specs.Vec.Iter.{into_iter_items, into_iter_len}
use Rattle.asm_modules.specs.Modules.{intervals_in}
use Rattle.asm_build.proofs.Built.{joined}
use Rattle.asm_build.proofs.build.intervals_in.Given as goal

abbrev pub invariant-loop-line : goal.invariant-loop-line
invariant-loop-line l = record {
  joined : joined l.intervals.items (into_iter_items l.line-iterator) ≡ intervals_in (into_iter_items l.initial.line-iterator);
  rest : into_iter_len l.line-iterator ≡ length (into_iter_items l.line-iterator);
}
