-- The rewritten IR: a module of an IR with the words and functions of patches in it (the rules are ours).
use Rattle.std.specs.Prelude.{ℕ, Bool, ◌==◌, not, if◌then◌else◌, List, [], ◌++◌, length, map}
use Rattle.std.specs.List.{list_any}
use Rattle.std.specs.Str.{bytes_eq}
use Rattle.gt_model.specs.declared.intervals.Block.{Block}
use Rattle.gt_model.specs.declared.intervals.Interval.{Interval}
use Rattle.gt_model.specs.declared.ir.Ir.{Ir}
use Rattle.gt_model.specs.declared.modules.Module.{Module}
use Rattle.gt_model.specs.declared.modules.Section.{Section}
use Rattle.rewrite.specs.Blocks.{new_blocks}
use Rattle.rewrite.specs.Contents.{new_contents}
use Rattle.rewrite.specs.Exprs.{new_exprs}
use Rattle.rewrite.specs.Functions.{function_interval}
use Rattle.rewrite.specs.Symbols.{new_symbols}
use Rattle.sym_expr.specs.declared.patches.PatchTable.{PatchTable}
use Rattle.sym_expr.specs.declared.program.Stretch.{Stretch}
use Rattle.sym_expr.specs.Modules.{id_of, is_loaded}
use Rattle.sym_expr.specs.Patches.{inserted_in}
use Rattle.sym_expr.specs.Placing.{stretch_size}
use Rattle.sym_expr.specs.Program.{has_entry, program, stretch}
use Rattle.sym_expr.specs.Tables.{Tables}

-- words are inserted in the block
abbrev pub has_words : PatchTable → Block → Bool
has_words p b = not (length (inserted_in p (id_of b)) == 0)

-- an interval with new blocks, expressions and bytes
abbrev pub stretched : Module → PatchTable → Interval → Stretch → Interval
stretched m p i s = record i { blocks = new_blocks m p i s; exprs = new_exprs m p i s; size = stretch_size s; contents = new_contents s }

-- an interval where no words are inserted stays as it is: it needs no padding
abbrev pub new_interval : Module → Tables → PatchTable → Interval → Interval
new_interval m t p i = if list_any (has_words p) i.blocks then stretched m p i (stretch m t p i) else i

-- the functions become intervals of the section that has the entry, behind its own
abbrev pub new_intervals : Module → Tables → PatchTable → Section → List Interval
new_intervals m t p s = map (new_interval m t p) s.intervals ++ (if has_entry m s then map (function_interval m) p.functions else [])

-- a section that isn't loaded stays as it is
abbrev pub new_section : Module → Tables → PatchTable → Section → Section
new_section m t p s = if is_loaded s then record s { intervals = new_intervals m t p s } else s

abbrev pub rewritten_module : Module → Tables → PatchTable → Module
rewritten_module m t p = record m { symbols = new_symbols m (program m t p) p; sections = map (new_section m t p) m.sections }

-- the IR whose module of an identifier is rewritten
abbrev pub rewritten : Ir → List ℕ → Tables → PatchTable → Ir
rewritten ir id t p = record ir { modules = map (λ (m : Module). if bytes_eq m.uuid id then rewritten_module m t p else m) ir.modules }
