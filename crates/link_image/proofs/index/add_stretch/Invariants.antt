use Rattle.std.proofs.Common.{◌≡◌, ◌++◌, List, drop}
use Rattle.std.specs.Str.{bytes_eq}
use Rattle.indexmap.specs.IndexMap.{get}
use Rattle.sym_expr.specs.Placing.{Placed, end_from, placed, placed_from, stretch_size}
use Rattle.link_image.specs.Ready.{KeepsAll, shifted}
use Rattle.link_image.proofs.index.add_stretch.Given as goal

abbrev pub invariant-loop-piece : goal.invariant-loop-piece
invariant-loop-piece l = record {
  inside : end_from l.end (drop l.piece-index l.stretch.pieces) ≡ stretch_size l.stretch;
  kept : (before : List Placed) → KeepsAll before (get bytes_eq l.fn.blocks)
      → (front : List Placed) × KeepsAll (before ++ front) (get bytes_eq l.blocks) × (front ++ shifted l.start (placed_from l.end (drop l.piece-index l.stretch.pieces)) ≡ shifted l.start (placed l.stretch));
}
