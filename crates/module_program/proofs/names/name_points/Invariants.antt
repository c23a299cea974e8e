use Rattle.std.proofs.Common.{◌≡◌, ℕ, List, take}
use Rattle.std.specs.HashMap.{get_by_text}
use Rattle.module_program.specs.Cutting.{point_among}
use Rattle.module_program.proofs.names.name_points.Given as goal

abbrev pub invariant-loop-function : goal.invariant-loop-function
invariant-loop-function l = (q : List ℕ) → get_by_text l.names q ≡ point_among l.module (take l.function-index l.functions) q
