use Rattle.std.proofs.Common.{take}
use Rattle.indexed_program.specs.Kept.{IsRight, KeepsAll}
use Rattle.indexed_program.proofs.building.index_program.Given as goal

abbrev pub invariant-loop-number : goal.invariant-loop-number
invariant-loop-number l = record {
  right : IsRight l.program l.indexes;
  kept : KeepsAll l.indexes (take l.number l.program.stretches);
}
