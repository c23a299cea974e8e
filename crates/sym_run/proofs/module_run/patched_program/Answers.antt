use Rattle.std.proofs.Common.{◌≡◌, Result, Ok, Err, subst, sym}
use Rattle.std.specs.Prelude.{IfOk}
use Rattle.module_program.specs.Graphs.{patched_at}
use Rattle.sym_expr.specs.declared.program.Program.{Program}
use Rattle.sym_expr.specs.WellMade.{well_made}
use Rattle.sym_run.proofs.module_run.patched_program.Goals as goal

-- a result that is a program that is well made is well made
well_of : {E : Type 0} (g : Program) → well_made g → (r : Result Program E) → IfOk r (λ made. made ≡ g) → IfOk r well_made
well_of g well (Ok made) same = subst well_made (sym same) well
well_of g well (Err e) same = tt

pub returns-clause-well : goal.returns-clause-well
returns-clause-well c =
    well_of (patched_at c.args.graph.now c.args.id c.args.patches.now) (c.patched_programs_are_well_made.ensures _ _ _ _ c.requires.formed c.requires.few c.requires.table c.requires.free)
    c.program_of.result c.program_of.ensures
