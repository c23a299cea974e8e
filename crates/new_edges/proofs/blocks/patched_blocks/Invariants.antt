use Rattle.std.proofs.Common.{◌≡◌, map, take}
use Rattle.std.specs.List.{filter_map, flat_map}
use Rattle.new_edges.specs.Blocks.{patched_block}
use Rattle.new_edges.proofs.blocks.patched_blocks.Given as goal
use Rattle.sym_expr.specs.declared.program.Stretch.{Stretch}
use Rattle.sym_expr.specs.Points.{code_of}

abbrev pub invariant-loop-stretch : goal.invariant-loop-stretch
invariant-loop-stretch l = l.blocks.items ≡ map patched_block (filter_map code_of (flat_map (λ (s : Stretch). s.pieces) (take l.stretch-index l.stretch-items)))
