use Rattle.std.proofs.Common.{◌≡◌, ◌++◌, take}
use Rattle.std.specs.List.{filter_map, flat_map}
use Rattle.sym_expr.specs.Points.{code_of}
use Rattle.sym_expr.specs.declared.program.Stretch.{Stretch}
use Rattle.taken_ids.specs.Identifiers.{part_ids}
use Rattle.taken_ids.proofs.derived.push_program.Given as goal

abbrev pub invariant-loop-stretch : goal.invariant-loop-stretch
invariant-loop-stretch l = l.out.items ≡ l.initial.out.items ++ flat_map (part_ids l.module) (filter_map code_of (flat_map (λ (s : Stretch). s.pieces) (take l.stretch-index l.stretch-items)))
