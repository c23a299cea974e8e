use Rattle.std.proofs.Common.{◌≡◌, take}
use Rattle.std.specs.Prelude.{filter}
use Rattle.sym_expr.specs.Modules.{blocks_of, intervals_of, is_loaded}
use Rattle.new_edges.proofs.loaded.loaded_blocks.Given as goal

abbrev pub invariant-loop-section : goal.invariant-loop-section
invariant-loop-section l = l.blocks.items ≡ blocks_of (intervals_of (filter is_loaded (take l.section-index l.section-items)))
