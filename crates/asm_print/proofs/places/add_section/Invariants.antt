use Rattle.std.proofs.Common.{◌≡◌, ◌++◌, take}
use Rattle.std.specs.List.{flat_map}
use Rattle.asm_print.specs.Names.{spots_in}
use Rattle.asm_print.proofs.places.add_section.Given as goal

abbrev pub invariant-loop-interval : goal.invariant-loop-interval
invariant-loop-interval l = l.spots.items ≡ l.initial.spots.items ++ flat_map spots_in (take l.interval-index l.interval-items)
