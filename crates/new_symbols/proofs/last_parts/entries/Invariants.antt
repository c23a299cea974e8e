use Rattle.std.proofs.Common.{◌≡◌, map, take}
use Rattle.std.specs.List.{filter_map, flat_map}
use Rattle.sym_expr.specs.Points.{code_of}
use Rattle.sym_expr.specs.declared.program.Stretch.{Stretch}
use Rattle.new_symbols.specs.Entries.{last_entry}
use Rattle.new_symbols.proofs.last_parts.entries.Given as goal

abbrev pub invariant-loop-stretch : goal.invariant-loop-stretch
invariant-loop-stretch l = l.entries.items ≡ map (last_entry l.module) (filter_map code_of (flat_map (λ (s : Stretch). s.pieces) (take l.stretch-index l.stretch-items)))
