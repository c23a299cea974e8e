use Rattle.std.proofs.Common.{◌≡◌, ℕ, List, take}
use Rattle.std.specs.List.{filter_map}
use Rattle.std.specs.Option.{option_or}
use Rattle.std.specs.Str.{bytes_eq}
use Rattle.indexmap.specs.IndexMap.{get}
use Rattle.function_tables.specs.Later.{parts_among}
use Rattle.sym_expr.specs.Points.{code_of}
use Rattle.function_tables.proofs.later.add_stretch.Given as goal

abbrev pub invariant-loop-piece : goal.invariant-loop-piece
invariant-loop-piece l = (q : List ℕ) → get bytes_eq l.parts q ≡ option_or (get bytes_eq l.initial.parts q) (parts_among l.module (filter_map code_of (take l.piece-index l.piece-items)) q)
