use Rattle.std.proofs.Common.{ℕ, ◌+◌}
use Rattle.a64_inst.specs.Runs.{Run, onward}
use Rattle.sym_expr.specs.declared.cause.Cause.{Cause}
use Rattle.sym_expr.specs.States.{State}
use Rattle.sym_expr.specs.Steps.{step}
use Rattle.sym_run.specs.declared.report.SymEnd.TheVariants.{Running}
use Rattle.sym_run.specs.Standing.{StandsAt}
use Rattle.sym_step.specs.Found.{IsCache}
use Rattle.sym_run.proofs.steps.do_steps.Given as goal

abbrev pub invariant-loop-done : goal.invariant-loop-done
invariant-loop-done l = IsCache l.program l.cache × ((r : Run Cause State) (before : ℕ) → StandsAt l.program r before Running l.initial.runner → StandsAt l.program (onward (step l.program) l.done r) (before + l.done) Running l.runner)
