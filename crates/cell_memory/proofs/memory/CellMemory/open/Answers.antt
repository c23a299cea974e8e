use Rattle.std.proofs.Common.{◌≡◌, ◌∙◌, [], map, ap}
use Rattle.std.specs.Str.{bytes_eq}
use Rattle.std.proofs.Math.Path.{fun_ext}
use Rattle.indexmap.specs.IndexMap.{get}
use Rattle.cell_memory.specs.declared.memory.CellMemory.{CellMemory}
use Rattle.cell_memory.specs.Memory.{cells_of}
use Rattle.cell_memory.specs.Shown.{shown}
use Rattle.cell_memory.proofs.Objects.{map_or, zero_cells}
use Rattle.sym_expr.specs.declared.value.Object.{Object}
use Rattle.sym_expr.specs.declared.value.Object.TheVariants.{Block, Stack}
use Rattle.sym_expr.specs.Points.{data_at}
use Rattle.sym_expr.specs.States.{block_cells, object_cells}
use Rattle.sym_expr.specs.Values.{Byte}
use Rattle.cell_memory.proofs.memory.CellMemory.open.Goals as goal

pub returns : goal.returns
returns c =
    let g = c.args.program.now in
    let stack = c.args.stack in
    let memory : CellMemory = record { stack = c.in_ok-cells.cells; blocks = c.in_ok-blocks.blocks } in
    fun_ext (λ (o : Object). elim o as (λ o. cells_of memory o ≡ object_cells g stack o) [
      | Stack ↦ c.in_ok-cells.ensures ∙ ap (map Byte) (c.in_ok-zeros.ensures.items_if_clones_equal (λ y e. e)) ∙ zero_cells stack
      | Block id ↦ map_or shown block_cells [] (get bytes_eq c.in_ok-blocks.blocks id) (data_at g id) (c.in_ok-blocks.ensures id)
    ])
