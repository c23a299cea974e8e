use Rattle.std.proofs.Common.{◌≡◌, ◌≤◌, Some, drop, length, slice_get}
use Rattle.std.specs.List.{AllByRecursion}
use Rattle.sym_expr.specs.declared.program.Piece.{Piece}
use Rattle.sym_expr.specs.declared.program.Program.{Program}
use Rattle.sym_expr.specs.Points.{first_code}
use Rattle.sym_expr.specs.WellMade.{well_made}
use Rattle.indexed_program.specs.Building.{IsAhead}
use Rattle.indexed_program.specs.Kept.{IsKept, IsRight}
use Rattle.indexed_program.proofs.building.add_stretch.Given as goal

abbrev pub invariant-loop-left : goal.invariant-loop-left
invariant-loop-left l = record {
  within : l.left ≤ length l.stretch.pieces;
  right : (g : Program) → well_made g → slice_get g.stretches l.number ≡ Some l.stretch → IsRight g l.fn.indexes → IsRight g l.indexes;
  keeps : (p : Piece) → IsKept l.fn.indexes p → IsKept l.indexes p;
  kept : AllByRecursion (IsKept l.indexes) (drop l.left l.stretch.pieces);
  ahead : (g : Program) → well_made g → slice_get g.stretches l.number ≡ Some l.stretch → IsAhead g (first_code (drop l.left l.stretch.pieces)) l.ahead;
}

abbrev pub decreases-loop-left : goal.decreases-loop-left
decreases-loop-left l = l.left
