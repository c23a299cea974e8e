use Rattle.std.proofs.Common.{◌≡◌, ◌++◌, take}
use Rattle.std.specs.List.{filter_map, flat_map}
use Rattle.sym_expr.specs.Points.{code_of}
use Rattle.taken_ids.specs.Identifiers.{part_ids}
use Rattle.taken_ids.proofs.derived.push_stretch.Given as goal

abbrev pub invariant-loop-piece : goal.invariant-loop-piece
invariant-loop-piece l = l.out.items ≡ l.initial.out.items ++ flat_map (part_ids l.module) (filter_map code_of (take l.piece-index l.piece-items))
