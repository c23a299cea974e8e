-- What a layout of a module of assembly must find room for.
use Rattle.std.specs.Prelude.{map}
use Rattle.asm_modules.specs.declared.module.AsmInterval.{AsmInterval}
use Rattle.asm_modules.specs.declared.module.AsmModule.{AsmModule}
use Rattle.asm_modules.specs.Valid.{interval_size}
use Rattle.sym_expr.specs.declared.shape.Shape.{Shape}
use Rattle.sym_expr.specs.declared.shape.ShapeSpot.{ShapeSpot}

-- an interval with the size of its items, and the alignment and the residue that are written at it
abbrev pub spot_of : AsmInterval → ShapeSpot
spot_of i = record { interval = i.uuid; size = interval_size i; align = i.align; residue = i.residue }

-- the intervals, in order
abbrev pub shape_asm : AsmModule → Shape
shape_asm m = record { spots = map spot_of m.intervals }
