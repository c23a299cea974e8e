use Rattle.std.proofs.Common.{◌≡◌, subst}
use Rattle.std.specs.Prelude.{IfOk}
use Rattle.sym_expr.specs.declared.program.Program.{Program}
use Rattle.sym_run.specs.declared.report.SymReport.{SymReport}
use Rattle.sym_run.specs.Run.{sym_run}
use Rattle.sym_run.proofs.module_run.run_symbolic.Goals as goal

pub returns : goal.returns
returns c =
    subst (λ (g : Program). IfOk c.run_program.result (λ (r : SymReport). r ≡ sym_run g c.args.stack c.args.input.now c.args.steps)) c.in_ok-program.ensures.value
    c.run_program.ensures
