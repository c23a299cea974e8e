use Rattle.std.proofs.Common.{◌≡◌, take}
use Rattle.std.specs.Prelude.{filter}
use Rattle.std.specs.List.{flat_map}
use Rattle.sym_expr.specs.Modules.{is_loaded}
use Rattle.sym_expr.specs.Program.{section_stretches}
use Rattle.module_program.proofs.whole.stretches.Given as goal

abbrev pub invariant-loop-section : goal.invariant-loop-section
invariant-loop-section l = l.stretches.items ≡ flat_map (section_stretches l.context.module l.context.tables l.context.patches.now) (filter is_loaded (take l.section-index l.section-items))
