use Rattle.std.proofs.Common.{◌≡◌, Result, Ok, Err, ap, subst, sym, ◌∙◌}
use Rattle.std.specs.Prelude.{IfOk}
use Rattle.aux_tables.specs.ModuleTables.{tables_of}
use Rattle.gt_model.specs.declared.modules.Module.{Module}
use Rattle.node_arena.specs.Arenas.{module_at}
use Rattle.node_arena.specs.Plain.{ir_of, plain_module}
use Rattle.sym_expr.specs.declared.patches.PatchTable.{PatchTable}
use Rattle.sym_expr.specs.declared.program.Program.{Program}
use Rattle.sym_expr.specs.Patches.{no_patches}
use Rattle.sym_expr.specs.Program.{program}
use Rattle.sym_expr.specs.WellMade.{well_made}
use Rattle.module_program.specs.Graphs.{program_in}
use Rattle.module_program.proofs.unpatched.unpatched_program.Goals as goal

-- what is the program of a module and of no patches is well made where that program is
well_of : {E : Type 0} (m : Module) (p : PatchTable) → p ≡ no_patches → well_made (program_in m) → (r : Result Program E) → IfOk r (λ g. g ≡ program m (tables_of m) p) → IfOk r well_made
well_of m p none well (Ok g) same = subst well_made (sym (same ∙ ap (program m (tables_of m)) none)) well
well_of m p none well (Err e) same = tt

pub returns-clause-well : goal.returns-clause-well
returns-clause-well c =
    let g = c.args.graph.now in
    let m = plain_module g (module_at g c.args.id) in
    well_of m _ c.no_patches-none.ensures (c.programs_are_well_made.ensures (ir_of g) m (tables_of m) c.requires.formed) c.program_of.result c.program_of.ensures
