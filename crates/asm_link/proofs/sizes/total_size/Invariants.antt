use Rattle.std.proofs.Common.{◌≡◌, ◌+◌, drop, sum_by}
use Rattle.asm_modules.specs.Valid.{interval_size}
use Rattle.asm_link.proofs.sizes.total_size.Given as goal

abbrev pub invariant-loop-interval : goal.invariant-loop-interval
invariant-loop-interval l = l.total + sum_by interval_size (drop l.interval-index l.asm.intervals) ≡ sum_by interval_size l.asm.intervals
