use Rattle.std.proofs.Common.{◌≡◌, ◌+◌, drop, sum_by}
use Rattle.asm_modules.specs.Places.{item_size}
use Rattle.asm_modules.specs.Valid.{interval_size}
use Rattle.asm_link.proofs.sizes.interval_size.Given as goal

abbrev pub invariant-loop-item : goal.invariant-loop-item
invariant-loop-item l = l.size + sum_by item_size (drop l.item-index l.interval.items) ≡ interval_size l.interval
