use Rattle.std.proofs.Common.{◌≡◌, ◌++◌, List, drop}
use Rattle.std.specs.List.{flat_map}
use Rattle.std.specs.Str.{bytes_eq}
use Rattle.indexmap.specs.IndexMap.{get}
use Rattle.sym_expr.specs.Images.{addressed}
use Rattle.sym_expr.specs.Placing.{Placed}
use Rattle.link_image.specs.Ready.{all_addressed, KeepsAll}
use Rattle.link_image.proofs.index.index_blocks.Given as goal

abbrev pub invariant-loop-stretch : goal.invariant-loop-stretch
invariant-loop-stretch l =
    (front : List Placed) × KeepsAll front (get bytes_eq l.blocks) × (front ++ flat_map (addressed l.layout) (drop l.stretch-index l.program.stretches) ≡ all_addressed l.layout l.program)
