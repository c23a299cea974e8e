-- The assembly text of a module.
use Rattle.std.specs.Prelude.{ℕ, Bool, false, List, [], ◌++◌, codes, Option, None, Some}
use Rattle.std.specs.Fmt.{decimal, digits}
use Rattle.std.specs.List.{flat_map}
use Rattle.uuid.specs.Text.{lower, hyphenated_text}
use Rattle.aux_tables.specs.ModuleTables.{tables_of}
use Rattle.gt_model.specs.declared.intervals.Interval.{Interval}
use Rattle.gt_model.specs.declared.modules.Module.{Module}
use Rattle.gt_model.specs.declared.modules.Section.{Section}
use Rattle.gt_model.specs.declared.symbols.Payload.{Payload}
use Rattle.gt_model.specs.declared.symbols.Payload.TheVariants as payloads
use Rattle.gt_model.specs.declared.symbols.Symbol.{Symbol}
use Rattle.node_arena.specs.Arenas.{Arenas, module_at}
use Rattle.node_arena.specs.declared.ids.ModuleId.{ModuleId}
use Rattle.node_arena.specs.Plain.{plain_module}
use Rattle.sym_expr.specs.declared.program.Stretch.{Stretch}
use Rattle.sym_expr.specs.declared.shape.ShapeSpot.{ShapeSpot}
use Rattle.sym_expr.specs.Modules.{loaded_sections}
use Rattle.sym_expr.specs.Patches.{no_patches}
use Rattle.sym_expr.specs.Placing.{placed, spot_of, stretch_size}
use Rattle.sym_expr.specs.Program.{stretch}
use Rattle.sym_expr.specs.Tables.{Tables}
use Rattle.asm_lines.specs.Labels.{quoted}
use Rattle.asm_print.specs.Items.{marks, placed_lines}
use Rattle.asm_print.specs.Names.{label_of}

abbrev pub payload_line : Module → List ℕ → Payload → List ℕ
payload_line m id payloads.Nothing = []
payload_line m id (payloads.Value value) = codes ".set " ++ (label_of m id ++ (codes ", 0x" ++ (digits 16 false value ++ codes "\n")))
payload_line m id (payloads.Referent block) = []

-- the line of an absolute symbol
abbrev pub set_line : Module → Symbol → List ℕ
set_line m s = payload_line m s.uuid s.payload

abbrev pub residue_text : Option ℕ → List ℕ
residue_text None = []
residue_text (Some r) = codes " " ++ decimal r

-- the line with which an interval begins
abbrev pub interval_line : ShapeSpot → List ℕ
interval_line x = codes ".interval " ++ (hyphenated_text lower x.interval ++ (codes " " ++ (decimal x.align ++ (residue_text x.residue ++ codes "\n"))))

-- its pieces, and what stands at its end
abbrev pub body_lines : Module → Interval → Stretch → List ℕ
body_lines m i s = flat_map (placed_lines m i) (placed s) ++ marks m i (stretch_size s)

abbrev pub stretch_lines : Module → Interval → Stretch → List ℕ
stretch_lines m i s = interval_line (spot_of s) ++ body_lines m i s

abbrev pub interval_lines : Module → Tables → Interval → List ℕ
interval_lines m t i = stretch_lines m i (stretch m t no_patches i)

abbrev pub section_lines : Module → Tables → Section → List ℕ
section_lines m t s = codes ".section " ++ (quoted s.name ++ (codes "\n" ++ flat_map (interval_lines m t) s.intervals))

-- absolute symbols, and then loaded sections
abbrev pub printed_with : Module → Tables → List ℕ
printed_with m t = flat_map (set_line m) m.symbols ++ flat_map (section_lines m t) (loaded_sections m)

-- the text of a module with the tables that it has
abbrev pub printed_module : Module → List ℕ
printed_module m = printed_with m (tables_of m)

-- the text of a module of a graph
abbrev pub printed : Arenas → ModuleId → List ℕ
printed g id = printed_module (plain_module g (module_at g id))
