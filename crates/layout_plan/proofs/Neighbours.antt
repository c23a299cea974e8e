-- The loop over neighbours.
use Rattle.std.proofs.Common.{Option, Some, None, List}
use Rattle.sym_expr.specs.declared.layout.PlacedSpot.{PlacedSpot}
use Rattle.layout_plan.specs.declared.fault.LayoutFault.{LayoutFault}
use Rattle.layout_plan.specs.Faults.{overlap_after, overlap_fault}

-- the fault of spots behind the one before them, if there is one
abbrev pub overlap_behind : Option PlacedSpot → List PlacedSpot → Option LayoutFault
overlap_behind None ys = overlap_fault ys
overlap_behind (Some x) ys = overlap_after x ys
