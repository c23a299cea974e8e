use Rattle.std.proofs.Common.{◌≡◌, ◌++◌, map, take}
use Rattle.asm_print.specs.Names.{spot}
use Rattle.asm_print.proofs.places.add_spots.Given as goal

abbrev pub invariant-loop-block : goal.invariant-loop-block
invariant-loop-block l = l.spots.items ≡ l.initial.spots.items ++ map (spot l.interval) (take l.block-index l.block-items)
