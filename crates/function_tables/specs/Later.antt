-- The later parts of blocks, as they are kept.
use Rattle.std.specs.Prelude.{ℕ, List, [], find, Option, unwrap_or}
use Rattle.std.specs.declared.hash.BuildHasherDefault.{BuildHasherDefault}
use Rattle.std.specs.declared.hash.FoldHasher.{FoldHasher}
use Rattle.std.specs.Option.{option_map}
use Rattle.std.specs.Str.{bytes_eq}
use Rattle.edge_repair.specs.Edges.{later_parts}
use Rattle.gt_model.specs.declared.modules.Module.{Module}
use Rattle.function_tables.specs.declared.later.LaterParts.{LaterParts}
use Rattle.indexmap.specs.IndexMap.{IndexMap, get}
use Rattle.sym_expr.specs.declared.program.CodeBlock.{CodeBlock}

-- a map from identifiers to several
abbrev pub Index : Type 0
Index = IndexMap (List ℕ) (List (List ℕ)) (BuildHasherDefault FoldHasher)

-- none of a block that isn't kept
abbrev pub kept_parts : Index → List ℕ → List (List ℕ)
kept_parts parts id = unwrap_or (get bytes_eq parts id) []

abbrev pub later_of : LaterParts → List ℕ → List (List ℕ)
later_of l = kept_parts l.parts

-- those of a block among several
abbrev pub parts_among : Module → List CodeBlock → List ℕ → Option (List (List ℕ))
parts_among m blocks id = option_map (later_parts m) (find (λ (b : CodeBlock). bytes_eq b.id id) blocks)
