-- What a machine that was opened keeps.
use Rattle.std.specs.Prelude.{◌≤◌}
use Rattle.a64_inst.specs.Runs.{run}
use Rattle.sym_expr.specs.States.{start}
use Rattle.sym_expr.specs.Steps.{step}
use Rattle.sym_run.specs.declared.machine.SymMachine.TheInside.{Inside}
use Rattle.sym_run.specs.Opened.{Opened}
use Rattle.sym_run.specs.Standing.{StandsAt}
use Rattle.sym_step.specs.Found.{IsCache}

-- the machine as contracts see it
abbrev pub opened : Inside → Opened
opened inside = record { program = inside.program; stack = inside.stack; input = inside.input.now; count = inside.count }

-- it stands where its run stands after its steps
pub record Stands (inside : Inside) : Type 0 where
  pub few : inside.done ≤ inside.count
  pub most : inside.count ≤ 10000000
  pub cache : IsCache inside.program inside.cache
  pub reached : StandsAt inside.program (run (step inside.program) inside.count (start inside.program inside.stack inside.input.now)) inside.done inside.end inside.runner
