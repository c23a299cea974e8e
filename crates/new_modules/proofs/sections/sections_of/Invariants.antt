use Rattle.std.proofs.Common.{◌≡◌, length, map, take}
use Rattle.std.specs.List.{flat_map}
use Rattle.aux_tables.specs.ModuleTables.{tables_of}
use Rattle.new_modules.specs.Shares.{share}
use Rattle.rewrite.specs.Rewritten.{new_section}
use Rattle.new_modules.proofs.sections.sections_of.Given as goal

abbrev pub invariant-loop-section : goal.invariant-loop-section
invariant-loop-section l = record {
  made : l.sections.items ≡ map (new_section l.inserts.module.now (tables_of l.inserts.module.now) l.inserts.patches.now) (take l.section-index l.section-items);
  at : l.at ≡ length (flat_map (share l.inserts.module.now (tables_of l.inserts.module.now) l.inserts.patches.now) (take l.section-index l.section-items));
}
