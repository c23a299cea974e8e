-- Runs of a program on the symbolic machine, and what is seen of them.
use Rattle.std.specs.Prelude.{ℕ, List}
use Rattle.a64_inst.specs.Domain.{exit, trapped}
use Rattle.a64_inst.specs.Runs.{Standing, going, over, halted, Run, run}
use Rattle.sym_expr.specs.declared.cause.Cause.{Cause}
use Rattle.sym_expr.specs.declared.point.Point.{Point}
use Rattle.sym_expr.specs.declared.program.Program.{Program}
use Rattle.sym_expr.specs.Points.{reached}
use Rattle.sym_expr.specs.States.{State, start}
use Rattle.sym_expr.specs.Steps.{step}
use Rattle.sym_run.specs.declared.report.SymEnd.{SymEnd}
use Rattle.sym_run.specs.declared.report.SymEnd.TheVariants as ends
use Rattle.sym_run.specs.declared.report.SymReport.{SymReport}

-- how a run stands, as its report tells; what is stuck is so at this point
abbrev pub end_of : Point → Standing Cause → SymEnd
end_of at going = ends.Running
end_of at (over (exit status)) = ends.Exit status
end_of at (over (trapped why)) = ends.Trap why
end_of at (halted cause) = ends.Stuck at cause

-- what is seen of a run of a program: a stuck one names the point that has the word, or the last one reached
abbrev pub seen : Program → Run Cause State → SymReport
seen g r = record { steps = r.done; end = end_of (reached g r.state.place) r.standing; output = r.state.output }

-- what is seen of the run of a program with a stack of so many bytes and this input after so many steps
abbrev pub sym_run : Program → ℕ → List ℕ → ℕ → SymReport
sym_run g stack input steps = seen g (run (step g) steps (start g stack input))
