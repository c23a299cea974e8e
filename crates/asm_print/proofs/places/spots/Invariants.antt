use Rattle.std.proofs.Common.{◌≡◌, take}
use Rattle.std.specs.Prelude.{filter}
use Rattle.std.specs.List.{flat_map}
use Rattle.sym_expr.specs.Modules.{intervals_of, is_loaded}
use Rattle.asm_print.specs.Names.{spots_in}
use Rattle.asm_print.proofs.places.spots.Given as goal

abbrev pub invariant-loop-section : goal.invariant-loop-section
invariant-loop-section l = l.spots.items ≡ flat_map spots_in (intervals_of (filter is_loaded (take l.section-index l.section-items)))
