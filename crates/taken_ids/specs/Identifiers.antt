-- The identifiers that patches derive, in order.
use Rattle.std.specs.Prelude.{ℕ, zero, suc, List, [], ◌∷◌, ◌++◌, length, map, drop}
use Rattle.std.specs.List.{flat_map}
use Rattle.gt_model.specs.declared.modules.Module.{Module}
use Rattle.module_program.specs.Graphs.{patched_in}
use Rattle.sym_expr.specs.declared.patches.Function.{Function}
use Rattle.sym_expr.specs.declared.patches.PatchTable.{PatchTable}
use Rattle.sym_expr.specs.declared.program.CodeBlock.{CodeBlock}
use Rattle.sym_expr.specs.declared.program.Program.{Program}
use Rattle.sym_expr.specs.Derived.{derived, part_text, function_text, interval_text, block_text, symbol_text}
use Rattle.sym_expr.specs.Patches.{function_blocks}
use Rattle.sym_expr.specs.Points.{code_blocks}
use Rattle.sym_expr.specs.TableOk.{line_labels}
use Rattle.block_parts.specs.declared.parts.Part.{Part}
use Rattle.block_parts.specs.Parts.{parts}

-- the identifier of a part of a block
abbrev pub part_id : List ℕ → List ℕ → Part → List ℕ
part_id namespace block part = derived namespace (part_text block part.start)

-- the first part keeps the block's identifier, each later one has its own
abbrev pub part_ids : List ℕ → CodeBlock → List (List ℕ)
part_ids namespace b = map (part_id namespace b.id) (drop 1 (parts b))

-- so many blocks of a function, from the k-th on
abbrev pub block_ids : List ℕ → List ℕ → ℕ → ℕ → List (List ℕ)
block_ids namespace name k zero = []
block_ids namespace name k (suc n) = derived namespace (block_text name k) ∷ block_ids namespace name (suc k) n

-- the symbol of a name
abbrev pub symbol_id : List ℕ → List ℕ → List ℕ
symbol_id namespace name = derived namespace (symbol_text name)

-- the labels of a function, in order
abbrev pub labels : Function → List (List ℕ)
labels f = flat_map line_labels f.body

-- a function's interval, its blocks, the symbols of its name and labels, and itself
abbrev pub function_ids : List ℕ → Function → List (List ℕ)
function_ids namespace f =
    derived namespace (interval_text f.name)
    ∷ block_ids namespace f.name 0 (length (function_blocks f))
    ++ symbol_id namespace f.name
    ∷ map (symbol_id namespace) (labels f)
    ++ derived namespace (function_text f.name)
    ∷ []

-- the parts of all blocks in block order, and then function by function; in a function's blocks nothing is inserted,
-- so that each has one part
abbrev pub ids_among : List ℕ → Program → PatchTable → List (List ℕ)
ids_among namespace g p = flat_map (part_ids namespace) (code_blocks g) ++ flat_map (function_ids namespace) p.functions

-- all identifiers that the patches derive in a module
abbrev pub derived_ids : Module → PatchTable → List (List ℕ)
derived_ids m p = ids_among m.uuid (patched_in m p) p
