use Rattle.std.proofs.Common.{◌≡◌, map, take}
use Rattle.asm_link.specs.Shaping.{spot_of}
use Rattle.asm_link.proofs.shaping.shape_asm.Given as goal

abbrev pub invariant-loop-interval : goal.invariant-loop-interval
invariant-loop-interval l = l.spots ≡ map spot_of (take l.interval-index l.asm.intervals)
