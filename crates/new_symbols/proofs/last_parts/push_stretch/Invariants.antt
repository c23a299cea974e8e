use Rattle.std.proofs.Common.{◌≡◌, ◌++◌, map, take}
use Rattle.std.specs.List.{filter_map}
use Rattle.sym_expr.specs.Points.{code_of}
use Rattle.new_symbols.specs.Entries.{last_entry}
use Rattle.new_symbols.proofs.last_parts.push_stretch.Given as goal

abbrev pub invariant-loop-piece : goal.invariant-loop-piece
invariant-loop-piece l = l.entries.items ≡ l.initial.entries.items ++ map (last_entry l.module) (filter_map code_of (take l.piece-index l.piece-items))
