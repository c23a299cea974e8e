-- How far a run of a program has come, as a runner stands.
use Rattle.std.specs.Prelude.{◌≡◌, ℕ}
use Rattle.a64_inst.specs.Runs.{Run}
use Rattle.sym_expr.specs.declared.cause.Cause.{Cause}
use Rattle.sym_expr.specs.declared.point.Point.{Point}
use Rattle.sym_expr.specs.declared.program.Program.{Program}
use Rattle.sym_expr.specs.Points.{reached}
use Rattle.sym_expr.specs.States.{State}
use Rattle.sym_step.specs.declared.flow.Flow.{Flow}
use Rattle.sym_step.specs.declared.flow.Flow.TheVariants as flows
use Rattle.sym_run.specs.declared.report.SymEnd.{SymEnd}
use Rattle.sym_run.specs.declared.report.SymEnd.TheVariants.{Running, Exit, Trap, Stuck}
use Rattle.sym_step.specs.declared.runner.Runner.{Runner}
use Rattle.sym_run.specs.Run.{end_of}
use Rattle.sym_step.specs.Runner.{state}

-- how many instructions are done by a step that comes to this end: a stuck one is none
abbrev pub done_at : SymEnd → ℕ
done_at (Stuck at cause) = 0
done_at _ = 1

-- how a run stands behind a step of this flow
abbrev pub end_at : Point → Flow → SymEnd
end_at at flows.On = Running
end_at at flows.Placed = Running
end_at at (flows.Exit status) = Exit status
end_at at (flows.Trap why) = Trap why
end_at at (flows.Stuck cause) = Stuck at cause

-- so many instructions of a run are done, it stands so, and what is seen of it is what the runner has; while it
-- goes on, the runner is its machine
pub record StandsAt (g : Program) (r : Run Cause State) (count : ℕ) (end : SymEnd) (runner : Runner) : Type 0 where
  pub done : r.done ≡ count
  pub standing : end_of (reached g r.state.place) r.standing ≡ end
  pub place : r.state.place ≡ runner.place
  pub output : r.state.output ≡ runner.output.bytes.items
  pub going : end ≡ Running → r.state ≡ state runner
