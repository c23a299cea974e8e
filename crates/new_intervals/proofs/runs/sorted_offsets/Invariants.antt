use Rattle.std.proofs.Common.{◌≡◌, ℕ, map, take}
use Rattle.sym_expr.specs.declared.program.Word.{Word}
use Rattle.new_intervals.proofs.runs.sorted_offsets.Given as goal

abbrev pub invariant-loop-offset : goal.invariant-loop-offset
invariant-loop-offset l = l.offsets.items ≡ map (λ (w : ℕ × Word). w.0) (take l.offset-index l.inserted)
