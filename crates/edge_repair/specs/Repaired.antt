-- The repaired IR: the rewritten one with its edges, vertices and tables (the rules are ours).
use Rattle.std.specs.Prelude.{ℕ, List, map, if◌then◌else◌}
use Rattle.std.specs.Option.{option_map_or}
use Rattle.std.specs.Str.{bytes_eq}
use Rattle.aux_codec.specs.Places.{with_places}
use Rattle.aux_codec.specs.Spelling.{spelling}
use Rattle.aux_codec.specs.Value.{Value}
use Rattle.aux_tables.specs.ModuleTables.{shape_of_table, table_value}
use Rattle.aux_types.specs.Shape.{Shape}
use Rattle.edge_repair.specs.Edges.{repaired_cfg}
use Rattle.edge_repair.specs.Sets.{function_value}
use Rattle.gt_model.specs.declared.ir.Ir.{Ir}
use Rattle.gt_model.specs.declared.modules.Module.{Module}
use Rattle.gt_model.specs.declared.tables.Aux.{Aux}
use Rattle.rewrite.specs.Places.{moved_place}
use Rattle.rewrite.specs.Rewritten.{rewritten_module}
use Rattle.sym_expr.specs.declared.patches.PatchTable.{PatchTable}
use Rattle.sym_expr.specs.Program.{program}
use Rattle.sym_expr.specs.Tables.{Tables}

-- the value of a table with its Places moved, and with the parts and functions where it is a table of functions
abbrev pub new_value : Module → Tables → PatchTable → Aux → Value → Value
new_value m t p a x = function_value m (program m t p) p a (with_places (moved_place m t p) x)

-- the bytes of a table with its Places moved where its type is parsed, as they were where it isn't
abbrev pub value_bytes : Module → Tables → PatchTable → Aux → Shape → List ℕ
value_bytes m t p a shape = option_map_or (λ x. spelling shape (new_value m t p a x)) (table_value a) a.bytes

-- a table of another type stays byte for byte
abbrev pub repaired_table : Module → Tables → PatchTable → Aux → Aux
repaired_table m t p a = option_map_or (λ shape. record a { bytes = value_bytes m t p a shape }) (shape_of_table a) a

abbrev pub repaired_module : Module → Tables → PatchTable → Module
repaired_module m t p = record (rewritten_module m t p) { aux = map (repaired_table m t p) m.aux }

-- the IR of which this module is repaired
abbrev pub repaired : Ir → Module → Tables → PatchTable → Ir
repaired ir m t p = record ir {
  modules = map (λ (x : Module). if bytes_eq x.uuid m.uuid then repaired_module x t p else x) ir.modules;
  cfg = repaired_cfg m t p ir.cfg;
}
