use Rattle.std.proofs.Common.{◌≡◌, ◌≤◌, ℕ, List, length, drop}
use Rattle.std.specs.List.{flat_map}
use Rattle.std.specs.Option.{option_map}
use Rattle.std.specs.Str.{bytes_eq}
use Rattle.indexmap.specs.IndexMap.{get}
use Rattle.cell_memory.specs.Blocks.{data_in}
use Rattle.cell_memory.specs.Shown.{shown}
use Rattle.sym_expr.specs.declared.program.Stretch.{Stretch}
use Rattle.sym_expr.specs.States.{block_cells}
use Rattle.cell_memory.proofs.block.program_blocks.Given as goal

abbrev pub invariant-loop-left : goal.invariant-loop-left
invariant-loop-left l = record {
  within : l.left ≤ length l.program.stretches;
  kept : (id : List ℕ) → option_map shown (get bytes_eq l.blocks id) ≡ option_map block_cells (data_in (flat_map (λ (s : Stretch). s.pieces) (drop l.left l.program.stretches)) id);
}

abbrev pub decreases-loop-left : goal.decreases-loop-left
decreases-loop-left l = l.left
