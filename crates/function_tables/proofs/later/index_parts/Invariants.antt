use Rattle.std.proofs.Common.{◌≡◌, ℕ, List, take}
use Rattle.std.specs.List.{filter_map, flat_map}
use Rattle.std.specs.Str.{bytes_eq}
use Rattle.indexmap.specs.IndexMap.{get}
use Rattle.function_tables.specs.Later.{parts_among}
use Rattle.sym_expr.specs.declared.program.Stretch.{Stretch}
use Rattle.sym_expr.specs.Points.{code_of}
use Rattle.function_tables.proofs.later.index_parts.Given as goal

abbrev pub invariant-loop-stretch : goal.invariant-loop-stretch
invariant-loop-stretch l = (q : List ℕ) → get bytes_eq l.parts q ≡ parts_among l.module (filter_map code_of (flat_map (λ (s : Stretch). s.pieces) (take l.stretch-index l.stretch-items))) q
