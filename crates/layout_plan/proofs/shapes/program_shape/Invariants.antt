use Rattle.std.proofs.Common.{◌≡◌, ◌++◌, ◌<◌, ◌^◌, drop, map, sum_by}
use Rattle.sym_expr.specs.Placing.{spot_of, stretch_size}
use Rattle.layout_plan.proofs.shapes.program_shape.Given as goal

abbrev pub invariant-loop-stretch : goal.invariant-loop-stretch
invariant-loop-stretch l = record {
  spots : l.spots ++ map spot_of (drop l.stretch-index l.program.stretches) ≡ map spot_of l.program.stretches;
  sizes : sum_by stretch_size (drop l.stretch-index l.program.stretches) < 2 ^ 62;
}
