-- What a rewriting moves, with what that makes of edges and tables.
use Rattle.std.specs.Prelude.{ℕ, map, slice_set}
use Rattle.aux_tables.specs.ModuleTables.{tables_of}
use Rattle.edge_repair.specs.Edges.{repaired_cfg}
use Rattle.edge_repair.specs.Repaired.{repaired_table}
use Rattle.graph_rewrite.specs.declared.moved.Moved.{Moved}
use Rattle.gt_model.specs.declared.ir.Ir.{Ir}
use Rattle.gt_model.specs.declared.modules.Module.{Module}
use Rattle.moved_modules.specs.declared.moved.Moved.{Moved as Moves}
use Rattle.moved_modules.specs.Moved.{moved_of as moves_of}
use Rattle.sym_expr.specs.declared.patches.PatchTable.{PatchTable}

-- what moves, with the edges, vertices and tables that the repaired IR has
abbrev pub with_repairs : Ir → Module → PatchTable → Moves → Moved
with_repairs ir m p moves = record {
  blocks = moves.blocks;
  intervals = moves.intervals;
  functions = moves.functions;
  cfg = repaired_cfg m (tables_of m) p ir.cfg;
  tables = map (repaired_table m (tables_of m) p) m.aux;
}

-- what patches move of a module of an IR
abbrev pub moved_of : Ir → Module → PatchTable → Moved
moved_of ir m p = with_repairs ir m p (moves_of m (tables_of m) p)

-- an IR with these edges and vertices, whose module at an ordinal is the given one with these tables
abbrev pub mended : Ir → ℕ → Module → Moved → Ir
mended ir k m moved = record ir { modules = slice_set ir.modules k (record m { aux = moved.tables }); cfg = moved.cfg }
