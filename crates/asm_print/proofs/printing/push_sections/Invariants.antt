use Rattle.std.proofs.Common.{◌≡◌, ◌++◌, ◌<◌, ◌^◌, drop, map, sum_by, take}
use Rattle.std.specs.Prelude.{filter}
use Rattle.std.specs.List.{flat_map}
use Rattle.aux_tables.specs.ModuleTables.{tables_of}
use Rattle.sym_expr.specs.Modules.{intervals_of, is_loaded}
use Rattle.sym_expr.specs.Patches.{no_patches}
use Rattle.sym_expr.specs.Placing.{spot_of, stretch_size}
use Rattle.sym_expr.specs.Program.{stretch}
use Rattle.asm_print.specs.Printed.{section_lines}
use Rattle.asm_print.proofs.printing.push_sections.Given as goal

-- what was pushed, and what the sections left will need
abbrev pub invariant-loop-section : goal.invariant-loop-section
invariant-loop-section l = record {
  lines : l.out ≡ l.initial.out ++ flat_map (section_lines l.context.module (tables_of l.context.module)) (filter is_loaded (take l.section-index l.section-items));
  stretches : l.stretches ≡ map (stretch l.context.module (tables_of l.context.module) no_patches) (intervals_of (filter is_loaded (drop l.section-index l.section-items)));
  spots : l.spots ≡ map spot_of l.stretches;
  bound : sum_by stretch_size l.stretches < 2 ^ 62;
}
