-- A machine that was opened on a program, and how far it has run.
use Rattle.std.specs.Prelude.{ℕ, List}
use Rattle.a64_inst.specs.Runs.{run}
use Rattle.sym_expr.specs.declared.program.Program.{Program}
use Rattle.sym_expr.specs.States.{State, start}
use Rattle.sym_expr.specs.Steps.{step}
use Rattle.sym_run.specs.declared.report.SymReport.{SymReport}
use Rattle.sym_run.specs.Run.{sym_run}

-- the program, the bytes of its stack, its input and how many steps were asked for
pub record Opened : Type 0 where
  pub program : Program
  pub stack : ℕ
  pub input : List ℕ
  pub count : ℕ

-- what is seen of its run
abbrev pub report : Opened → SymReport
report opened = sym_run opened.program opened.stack opened.input opened.count

-- what it holds
abbrev pub held : Opened → State
held opened = (run (step opened.program) opened.count (start opened.program opened.stack opened.input)).state
