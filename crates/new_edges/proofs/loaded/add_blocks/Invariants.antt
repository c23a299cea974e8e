use Rattle.std.proofs.Common.{◌≡◌, ◌++◌, take}
use Rattle.sym_expr.specs.Modules.{blocks_of}
use Rattle.new_edges.proofs.loaded.add_blocks.Given as goal

abbrev pub invariant-loop-interval : goal.invariant-loop-interval
invariant-loop-interval l = l.blocks.items ≡ l.initial.blocks.items ++ blocks_of (take l.interval-index l.interval-items)
