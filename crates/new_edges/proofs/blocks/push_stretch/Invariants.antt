use Rattle.std.proofs.Common.{◌≡◌, ◌++◌, map, take}
use Rattle.std.specs.List.{filter_map}
use Rattle.new_edges.specs.Blocks.{patched_block}
use Rattle.new_edges.proofs.blocks.push_stretch.Given as goal
use Rattle.sym_expr.specs.Points.{code_of}

abbrev pub invariant-loop-piece : goal.invariant-loop-piece
invariant-loop-piece l = l.blocks.items ≡ l.initial.blocks.items ++ map patched_block (filter_map code_of (take l.piece-index l.piece-items))
